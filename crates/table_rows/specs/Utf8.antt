-- Rule. Texts of rows in UTF-8 (RFC 3629).
use Rattle.std.specs.Prelude.{⊤, List, IsUtf8}
use Rattle.std.specs.List.{AllByRecursion}
use Rattle.sqlite_value.specs.Order.{Row}
use Rattle.sqlite_value.specs.declared.value.Value.{Value}
use Rattle.sqlite_value.specs.declared.value.Value.TheVariants.{Text}
use Rattle.table_meaning.specs.Rows.{columns_of}
use Rattle.table_meaning.specs.declared.rows.StoredRow.{StoredRow}

-- a value that is a text is in UTF-8
abbrev pub IsUtf8Value : Value → Type 0
IsUtf8Value (Text t) = IsUtf8 t
IsUtf8Value other = ⊤

-- Each text of the row is in UTF-8.
abbrev pub HasUtf8 : Row → Type 0
HasUtf8 row = AllByRecursion IsUtf8Value row

-- Each text of each of the rows is in UTF-8.
abbrev pub HaveUtf8 : List StoredRow → Type 0
HaveUtf8 rows = AllByRecursion (λ r. HasUtf8 (columns_of r)) rows
