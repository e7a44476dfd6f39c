-- Rule. What the tables hold, as look-ups.
use Rattle.std.specs.Prelude.{◌≡◌, ℕ, true, List, fold, if◌then◌else◌, Option, Some, option_map}
use Rattle.sqlite_value.specs.Order.{Row}
use Rattle.sqlite_value.specs.Keys.{plain}
use Rattle.sqlite_trees.specs.declared.store.Shape.TheVariants.{Table as TableTree}
use Rattle.sqlite_trees.specs.View.{IsShaped}
use Rattle.sqlite_schema.specs.Rules.{agree}
use Rattle.sqlite_rules.specs.Lists.{Has}
use Rattle.sqlite.specs.Effect.{Database, IsDatabase}
use Rattle.table_meaning.specs.declared.tables.TableName.{TableName}
use Rattle.table_meaning.specs.declared.rows.StoredRow.{StoredRow}
use Rattle.table_meaning.specs.Schema.{stored_schema}
use Rattle.table_meaning.specs.Rows.{tree_of, key_places, columns_of, RowKey, table_at, row_key_of, has_key, same_row_key, look_up}

-- no two different rows agree at these places
abbrev pub AreApart : List ℕ → List Row → Type 0
AreApart places rows = (a b : Row) → Has rows a → Has rows b → agree plain places a places b ≡ true → a ≡ b

-- Each of these rows has a key of the table. A row with a negative number, say, has none.
abbrev pub HaveKeys : TableName → List Row → Type 0
HaveKeys t rows = (row : Row) → Has rows row → (key : RowKey) × (table_at key ≡ t) × (has_key key row ≡ true)

-- The schema is the newest one, and the database says so. The numbers of each table's rows rise, and no key comes twice.
pub record AreKnown (db : Database) : Type 0 where
  pub schema : db.schema ≡ stored_schema
  pub sound : IsDatabase db
  pub ordered : (t : TableName) → IsShaped TableTree (db.trees (tree_of t))
  pub apart : (t : TableName) → AreApart (key_places t) (db.trees (tree_of t))

-- the row at each key, if it exists
abbrev pub Contents : Type 0
Contents = RowKey → Option StoredRow

-- The tables are known ones and hold exactly these contents: the row at each key is this one, and each row has a key.
pub record Hold (db : Database) (contents : Contents) : Type 0 where
  pub known : AreKnown db
  pub rows : (key : RowKey) → look_up db.trees key ≡ option_map columns_of (contents key)
  pub keyed : (t : TableName) → HaveKeys t (db.trees (tree_of t))

-- the contents with one row put at its key, and with several put in turn
abbrev pub with_row : Contents → StoredRow → Contents
with_row contents row key = if same_row_key key (row_key_of row) then Some row else contents key

abbrev pub with_stored_rows : Contents → List StoredRow → Contents
with_stored_rows = fold with_row
