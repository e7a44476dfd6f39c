-- Words. What a visitor of a table is given.
use Rattle.std.specs.Prelude.{◌≡◌, List, [], ◌∷◌, ◌++◌, map}
use Rattle.std.specs.List.{AllByRecursion}
use Rattle.sqlite_trees.specs.Tree.{Trees}
use Rattle.sqlite_value.specs.Order.{Row}
use Rattle.table_meaning.specs.declared.rows.StoredRow.{StoredRow}
use Rattle.table_meaning.specs.declared.tables.TableName.{TableName}
use Rattle.table_meaning.specs.Rows.{table_of, columns_of, rows_in}
use Rattle.table_rows.specs.Utf8.{HaveUtf8}

-- `takes` says what taking a row does: the visitor before, the row, and the visitor after.
module _ {V : Type 0} (takes : V → StoredRow → V → Type 0) where
  -- each of the rows is taken, in order
  abbrev pub VisitsAll : V → List StoredRow → V → Type 0
  VisitsAll old [] new = new ≡ old
  VisitsAll old (r ∷ rs) new = (mid : V) × takes old r mid × VisitsAll mid rs new

  -- these rows of the table have types, their texts are in UTF-8, and they are taken in order
  abbrev pub VisitsRows : TableName → V → List Row → V → Type 0
  VisitsRows table old rows new = (all : List StoredRow) × (map columns_of all ≡ rows) × AllByRecursion (λ r. table_of r ≡ table) all × HaveUtf8 all × VisitsAll old all new

  -- the rows of each of the tables are taken, in order
  abbrev pub VisitsTables : Trees → V → List TableName → V → Type 0
  VisitsTables trees old [] new = new ≡ old
  VisitsTables trees old (t ∷ ts) new = (mid : V) × VisitsRows t old (rows_in trees t) mid × VisitsTables trees mid ts new

-- `refuses` says which rows a visitor refuses.
module _ {V : Type 0} (takes : V → StoredRow → V → Type 0) (refuses : V → StoredRow → Type 0) where
  -- One of these rows of the table is refused, once those before it have been taken.
  pub record RefusesRow (table : TableName) (rows : List Row) (old : V) : Type 0 where
    pub before : List StoredRow
    pub row : StoredRow
    pub later : List Row
    pub mid : V
    pub are : map columns_of before ++ columns_of row ∷ later ≡ rows
    pub of_table : table_of row ≡ table
    pub taken : VisitsAll takes old before mid
    pub refused : refuses mid row
