-- Rule. The format of the stored rows: the kind of each column of a table.
use Rattle.std.specs.Prelude.{◌≡◌, ℕ, suc, List, [], ◌∷◌, map, length, ⊤}
use Rattle.std.specs.List.{range_with_len}
use Rattle.sqlite_value.specs.Order.{Row, column}
use Rattle.sqlite_rules.specs.Lists.{Has}
use Rattle.table_meaning.specs.declared.tables.TableName.{TableName}
use Rattle.table_meaning.specs.Layouts.{layout_of, kinds as kinds_in}
pub use Rattle.table_meaning.specs.Kinds.{Kind, number, integer, words, flag, octets, optional, either, IsOf}

abbrev pub kinds_of : TableName → List Kind
kinds_of t = kinds_in (layout_of t)

-- The columns of the row from a place on are of these kinds.
abbrev pub AreOf : List Kind → Row → ℕ → Type 0
AreOf [] row at = ⊤
AreOf (kind ∷ kinds) row at = IsOf kind (column row at) × AreOf kinds row (suc at)

-- The row has the format of its table.
abbrev pub IsStored : TableName → Row → Type 0
IsStored t row = (length row ≡ length (kinds_of t)) × AreOf (kinds_of t) row 0

-- the first columns of a row, and NULL past its end
abbrev pub columns_in : Row → ℕ → Row
columns_in row n = map (column row) (range_with_len 0 n)

-- Some row does not have the format of its table.
abbrev pub HasBadRow : TableName → List Row → Type 0
HasBadRow t rows = (row : Row) × Has rows row × ¬ IsStored t row
