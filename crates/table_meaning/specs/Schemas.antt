-- Rule. Tables of any schema, by its number: the newest one, or an earlier one.
use Rattle.std.specs.Prelude.{◌≡◌, ℕ, ◌≤◌, ◌<◌, Bool, true, ◌==◌, if◌then◌else◌, List, drop, take, length, codes, Option, Some, None, option_map}
use Rattle.std.specs.List.{AllByRecursion, list_any}
use Rattle.sqlite_value.specs.declared.value.Value.{Value}
use Rattle.sqlite_value.specs.Order.{column}
use Rattle.sqlite_trees.specs.declared.store.Shape.TheVariants.{Table as TableTree}
use Rattle.sqlite_trees.specs.Tree.{Trees}
use Rattle.sqlite_trees.specs.View.{IsShaped}
use Rattle.sqlite.specs.Effect.{Database, IsDatabase}
use Rattle.table_meaning.specs.declared.tables.TableName.{TableName}
use Rattle.table_meaning.specs.Schema.{parts_at, newest, layouts_at, schema_at}
use Rattle.table_meaning.specs.Texts.{Made, definitions}
use Rattle.table_meaning.specs.Rows.{tree_of, key_places, columns_of, whole, RowKey, setting_key, table_at, look_up}
use Rattle.table_meaning.specs.Holding.{AreApart, Contents, HaveKeys}

-- a schema has this number
abbrev pub IsSchema : ℕ → Type 0
IsSchema n = (1 ≤ n) × (n ≤ newest)

-- a schema has this number, and it is not the newest
abbrev pub IsEarlier : ℕ → Type 0
IsEarlier n = (1 ≤ n) × (n < newest)

-- Whether the schema of this number has a table in the tree. Number 0, which no schema has, has no table.
abbrev pub has_tree : ℕ → ℕ → Bool
has_tree n tree = list_any (λ l. l.tree == tree) (layouts_at n)

abbrev pub has_table : ℕ → TableName → Bool
has_table n t = has_tree n (tree_of t)

-- The schema is that of this number, and the database says so. The numbers of the rows of each of its tables rise, and no key comes twice.
pub record AreKnownAt (n : ℕ) (db : Database) : Type 0 where
  pub schema : db.schema ≡ schema_at n
  pub sound : IsDatabase db
  pub ordered : AllByRecursion (λ t. IsShaped TableTree (db.trees t.tree)) (schema_at n).tables
  pub apart : (t : TableName) → has_table n t ≡ true → AreApart (key_places t) (db.trees (tree_of t))

-- The tables are such tables, the row at each of their keys is this one, and each of their rows has a key.
pub record HoldAt (n : ℕ) (db : Database) (contents : Contents) : Type 0 where
  pub known : AreKnownAt n db
  pub rows : (key : RowKey) → has_table n (table_at key) ≡ true → look_up db.trees key ≡ option_map columns_of (contents key)
  pub keyed : (t : TableName) → has_table n t ≡ true → HaveKeys t (db.trees (tree_of t))

-- the contents of the tables that the schema has
abbrev pub only_at : ℕ → Contents → Contents
only_at n contents key = if has_table n (table_at key) then contents key else None

-- ---- the row that names the schema

-- reads its value; it means the same in each schema
abbrev pub schema_text : List ℕ
schema_text = codes "SELECT value FROM setting WHERE name = ?1 ORDER BY rowid"

-- the value of the setting `schema`
abbrev pub schema_setting : Trees → Option Value
schema_setting trees = option_map (λ row. column row 1) (look_up trees (setting_key (codes "schema")))

-- The tables are those of an earlier schema, and say so.
pub record AreEarlier (n : ℕ) (db : Database) : Type 0 where
  pub earlier : IsEarlier n
  pub known : AreKnownAt n db
  pub said : schema_setting db.trees ≡ Some (whole n)

-- ---- from one schema to another

-- the CREATE texts of a schema that another one lacks
abbrev pub definitions_between : ℕ → ℕ → List (List ℕ × Made)
definitions_between from to = drop (length (parts_at from)) (take (length (parts_at to)) definitions)
