-- Texts in UTF-8 stay so: the rows that are put have such texts, and every other row stays as it was.
use Rattle.std.proofs.Common.{Bool, true, false, cond, List, [], ◌∷◌, Option, Some, None, option_map, sym, subst}
use Rattle.std.specs.Prelude.{IfSome}
use Rattle.sqlite.specs.Effect.{Database}
use Rattle.sqlite_value.specs.Order.{Row}
use Rattle.table_meaning.specs.Holding.{Contents, Hold, with_row, with_stored_rows}
use Rattle.table_meaning.specs.Rows.{RowKey, columns_of, row_key_of, same_row_key}
use Rattle.table_meaning.specs.Steps.{HoldJust, PutsRows}
use Rattle.table_meaning.specs.declared.rows.StoredRow.{StoredRow}
use Rattle.table_reading.proofs.HeldRows.{HaveTexts}
use Rattle.table_reading.specs.Reading.{AreUtf8}
use Rattle.table_rows.specs.Utf8.{HasUtf8, HaveUtf8}

-- what is said of the columns of a row, if there is one, is said of the row
pub of_columns : (o : Option StoredRow) → IfSome (option_map columns_of o) HasUtf8 → IfSome o (λ r. HasUtf8 (columns_of r))
of_columns None texts = tt
of_columns (Some r) texts = texts

as_columns : (o : Option StoredRow) → IfSome o (λ r. HasUtf8 (columns_of r)) → IfSome (option_map columns_of o) HasUtf8
as_columns None texts = tt
as_columns (Some r) texts = texts

pub texts_of : (db : Database) (contents : Contents) → Hold db contents → AreUtf8 db.trees → HaveTexts contents
texts_of db contents holds utf8 key = of_columns (contents key) (subst (λ (o : Option Row). IfSome o HasUtf8) (holds.rows key) (utf8 key))

-- and back
pub utf8_of : (db : Database) (contents : Contents) → Hold db contents → HaveTexts contents → AreUtf8 db.trees
utf8_of db contents holds texts key = subst (λ (o : Option Row). IfSome o HasUtf8) (sym (holds.rows key)) (as_columns (contents key) (texts key))

put_texts : (rows : List StoredRow) (contents : Contents) → HaveTexts contents → HaveUtf8 rows → HaveTexts (with_stored_rows contents rows)
put_texts [] contents texts utf8 = texts
put_texts (row ∷ rows) contents texts utf8 = put_texts rows (with_row contents row) (λ key. one key (same_row_key key (row_key_of row))) utf8.1
  where
    one : (key : RowKey) (b : Bool) → IfSome (cond b (Some row) (contents key)) (λ r. HasUtf8 (columns_of r))
    one key true = utf8.0
    one key false = texts key

-- putting rows leaves texts in UTF-8
pub utf8_then : (old new : Database) (contents : Contents) (rows : List StoredRow) → PutsRows old new rows → HaveUtf8 rows → Hold old contents → AreUtf8 old.trees → AreUtf8 new.trees
utf8_then old new contents rows puts put holds utf8 = utf8_of new (with_stored_rows contents rows) (puts contents holds) (put_texts rows contents (texts_of old contents holds utf8) put)

-- and so are the texts of tables with just these rows
pub just_utf8 : (db : Database) (rows : List StoredRow) → HoldJust db rows → HaveUtf8 rows → AreUtf8 db.trees
just_utf8 db rows just put = utf8_of db (with_stored_rows (λ key. None) rows) just (put_texts rows (λ key. None) (λ key. tt) put)
