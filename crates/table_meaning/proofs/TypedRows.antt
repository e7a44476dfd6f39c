-- The columns of a typed row have the types of its table, and the first of them are its key.
use Rattle.std.proofs.Common.{◌≡◌, List, map, refl, sym, ap, ◌∙◌}
use Rattle.sqlite_value.specs.declared.value.ValueRef.{ValueRef}
use Rattle.sqlite_value.specs.Value.{owned}
use Rattle.sqlite_value.specs.Order.{Row, column}
use Rattle.sqlite_keyed.proofs.ListLemmas.{map-map}
use Rattle.sqlite.specs.Values.{bound_value, bound}
use Rattle.table_meaning.specs.declared.rows.StoredRow.{StoredRow}
use Rattle.table_meaning.specs.Rows.{key_places, shown, table_of, columns_of, key_columns, row_key_of, slots_of}
use Rattle.table_meaning.proofs.Columns.{key_shown}
use Rattle.table_meaning.proofs.FormatLemmas.{whole_row}
use Rattle.table_meaning.proofs.EachRow.{typed, key_first}
use Rattle.table_meaning.proofs.Typed.{bound_columns}

-- a row of the tree that shows the columns has those of their key
pub row_key_shown : (row : StoredRow) (raw : Row) → shown (table_of row) raw ≡ columns_of row → map (column raw) (key_places (table_of row)) ≡ map (column (key_columns (row_key_of row))) (slots_of (row_key_of row))
row_key_shown row raw is = key_shown (table_of row) raw (columns_of row) is ∙ key_first row ∙ sym (whole_row (key_columns (row_key_of row)) _ refl)

-- a row's values, bound as parameters, are its columns
pub bound_as : (values : List ValueRef) (row : StoredRow) → map owned values ≡ columns_of row → bound values ≡ columns_of row
bound_as values row same = sym (map-map bound_value owned values) ∙ ap (map bound_value) same ∙ bound_columns _ (columns_of row) (typed row)
