-- Rule. The schema of the stored tables as SQL has it, from their layouts.
use Rattle.std.specs.Prelude.{ℕ, ◌+◌, Bool, true, false, not, ◌&&◌, ◌||◌, ◌==◌, if◌then◌else◌, List, [], ◌∷◌, map, zip, filter_map, flat_map, slice_index, Some, None, option_map}
use Rattle.std.specs.List.{enumerate_from, position_or_len}
use Rattle.sqlite_value.specs.declared.value.Value.TheVariants.{Null}
use Rattle.sqlite_value.specs.declared.keys.Collation.TheVariants.{Binary}
use Rattle.sqlite_value.specs.Keys.{plain}
use Rattle.sqlite_schema.specs.declared.schema.Kind.{Kind as SqlKind}
use Rattle.sqlite_schema.specs.declared.schema.Kind.TheVariants as sql
use Rattle.sqlite_schema.specs.declared.schema.Action.TheVariants.{NoAction}
use Rattle.sqlite_schema.specs.declared.schema.Column.{Column as SqlColumn}
use Rattle.sqlite_schema.specs.declared.schema.Reference.{Reference}
use Rattle.sqlite_schema.specs.declared.schema.Table.{Table}
use Rattle.sqlite_schema.specs.declared.schema.Index.{Index}
use Rattle.sqlite_schema.specs.declared.schema.Schema.{Schema}
use Rattle.sqlite_catalog.specs.Change.{automatics}
use Rattle.table_meaning.specs.declared.tables.TableName.{TableName}
use Rattle.table_meaning.specs.declared.tables.TableName.TheVariants.{Instance}
use Rattle.table_meaning.specs.Kinds.{Kind, number, integer, words, flag, octets, optional, either}
use Rattle.table_meaning.specs.Layouts.{Column, Key, numbered, by_first, Layout, layout_of, column_places, of_key}
pub use Rattle.table_meaning.specs.Layouts.{Indexing, Part, a_table, a_former, an_index, parts, parts_at, newest}

-- ---- a table

abbrev pub type_of : Kind → SqlKind
type_of number = sql.Integer
type_of integer = sql.Integer
type_of words = sql.Text
type_of flag = sql.Integer
type_of octets = sql.Blob
type_of (optional kind) = type_of kind
type_of (either first other) = sql.Any

abbrev has_null : Kind → Bool
has_null (optional kind) = true
has_null _ = false

abbrev pub is_by_number : Key → Bool
is_by_number numbered = true
is_by_number (by_first n) = false

-- The column at a place among the columns is NOT NULL. The number of a row does not say so, since it is never NULL.
abbrev pub is_needed : Key → ℕ → Kind → Bool
is_needed key at kind = not (has_null kind || (is_by_number key && (at == 0)))

abbrev pub sql_column : Key → ℕ → Column → SqlColumn
sql_column key at c = record { name = c.name; kind = type_of c.kind; is_strict = true; not_null = is_needed key at c.kind; default = Null; collation = Binary }

abbrev pub sql_columns : Key → List Column → List SqlColumn
sql_columns key columns = map (λ p. sql_column key p.0 p.1) (enumerate_from 0 columns)

abbrev pub reference_at : ℕ → TableName → Reference
reference_at place parent = record { columns = place ∷ []; parent = (layout_of parent).name; parent_columns = []; on_delete = NoAction; on_update = NoAction; is_deferred = false }

-- places among the columns, as places in a row of the tree
abbrev pub in_row : Layout → List ℕ → List ℕ
in_row l = map (slice_index (column_places l))

-- the lists of columns that identify a row; if the key is not the number of the row, it comes first
abbrev pub uniques_with : Key → List ℕ → List (List ℕ) → List (List ℕ)
uniques_with numbered key others = others
uniques_with (by_first n) key others = key ∷ others

abbrev pub sql_table : Layout → Table
sql_table l =
    let key = of_key l (column_places l) in
    let uniques = uniques_with l.key key (map (in_row l) l.uniques) in
    record {
      name = l.name;
      tree = l.tree;
      columns = sql_columns l.key l.columns;
      key = if is_by_number l.key then Some 0 else None;
      primary = key;
      uniques = uniques;
      orders = map (λ _. plain) uniques;
      checks = [];
      references = filter_map (λ p. option_map (reference_at p.0) p.1.parent) (zip (column_places l) l.columns);
      computed = [];
      stamps = record { places = []; terms = []; formats = [] };
      is_counted = false;
    }

abbrev pub table_by : TableName → Table
table_by t = sql_table (layout_of t)

-- ---- an index over the instances

abbrev pub index_by : Indexing → Index
index_by i = record { name = i.name; tree = i.tree; table = (layout_of Instance).tree; columns = in_row (layout_of Instance) i.columns; order = plain; is_unique = false }

-- ---- the schemas

abbrev tables_in : Part → List TableName
tables_in (a_table t) = t ∷ []
tables_in (a_former l) = []
tables_in (an_index i) = []

abbrev layouts_in : Part → List Layout
layouts_in (a_table t) = layout_of t ∷ []
layouts_in (a_former l) = l ∷ []
layouts_in (an_index i) = []

-- the indexes that PRIMARY KEY and UNIQUE make, in the trees after the table's own
abbrev indexes_of : Layout → List Index
indexes_of l = automatics (sql_table l) 0 (l.tree + 1) (sql_table l).uniques

abbrev indexes_in : Part → List Index
indexes_in (a_table t) = indexes_of (layout_of t)
indexes_in (a_former l) = indexes_of l
indexes_in (an_index i) = index_by i ∷ []

-- the tables that are read
abbrev pub tables_at : ℕ → List TableName
tables_at schema = flat_map tables_in (parts_at schema)

-- all of its tables, also those that nobody reads any more
abbrev pub layouts_at : ℕ → List Layout
layouts_at schema = flat_map layouts_in (parts_at schema)

abbrev pub schema_at : ℕ → Schema
schema_at schema = record { tables = map sql_table (layouts_at schema); indexes = flat_map indexes_in (parts_at schema); views = [] }

abbrev pub stored_schema : Schema
stored_schema = schema_at newest

abbrev pub no_schema : Schema
no_schema = record { tables = []; indexes = []; views = [] }

-- the place of a table among those of the newest schema
abbrev pub table_place : TableName → ℕ
table_place t = position_or_len (λ l. l.tree == (layout_of t).tree) (layouts_at newest)
