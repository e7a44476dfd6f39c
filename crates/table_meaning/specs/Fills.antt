-- Rule. How an upgrade fills a table that a schema adds: for each row of another table, by its number, it inserts one row.
use Rattle.std.specs.Prelude.{option_and_then, ◌≡◌, ◌≢◌, ℕ, ◌≤◌, ◌<◌, ◌==◌, nat_lt, true, false, if◌then◌else◌, List, [], ◌∷◌, map, find, codes, slice_index_or, Option, Some, None, option_map, unwrap_or}
use Rattle.sqlite_value.specs.declared.value.Value.TheVariants.{Null, Text}
use Rattle.sqlite_value.specs.Order.{Row, column}
use Rattle.sqlite_value.specs.Keys.{plain}
use Rattle.sqlite_trees.specs.declared.store.Shape.TheVariants.{Table as TableTree}
use Rattle.sqlite_trees.specs.Tree.{Trees}
use Rattle.sqlite_trees.specs.View.{IsShaped}
use Rattle.sqlite_schema.specs.Rules.{agree}
use Rattle.sqlite_typed.specs.Columns.{bytes_of}
use Rattle.sqlite.specs.Effect.{Database}
use Rattle.reply_register.specs.declared.kept.Kept.{Kept as Call}
use Rattle.table_meaning.specs.declared.tables.Fill.{Fill}
use Rattle.table_meaning.specs.declared.tables.Fill.TheVariants.{Calls, Classes, Marks}
use Rattle.table_meaning.specs.declared.tables.TableName.{TableName}
use Rattle.table_meaning.specs.declared.tables.TableName.TheVariants as table
use Rattle.table_meaning.specs.declared.rows.StoredRow.{StoredRow}
use Rattle.table_meaning.specs.declared.rows.StoredRow.TheVariants.{Version, Kept, VersionClass, UnitMark}
use Rattle.table_meaning.specs.Layouts.{Layout, layout_of, former_kept, column_places}
use Rattle.table_meaning.specs.Rows.{whole, tree_of, columns_of, RowKey, version_key, unit_key, kept_key, class_key, mark_key, table_at}
use Rattle.table_meaning.specs.Kept.{number_of}
use Rattle.table_meaning.specs.Holding.{Contents}
use Rattle.table_meaning.specs.Worlds.{call_row}
use Rattle.table_meaning.specs.Schemas.{has_tree, HoldAt}

-- ---- the fills of each step between schemas

-- by the number of the schema that the step starts from; number 0 has none
abbrev fills_by_schema : List (List Fill)
fills_by_schema = [] ∷ (Calls ∷ []) ∷ (Classes ∷ Marks ∷ []) ∷ []

-- in the order in which they run
abbrev pub fills_of : ℕ → List Fill
fills_of schema = slice_index_or fills_by_schema schema []

-- ---- source and target

-- the table whose rows are copied; each of them is identified by its number
abbrev pub source_of : Fill → Layout
source_of Calls = former_kept
source_of Classes = layout_of table.Version
source_of Marks = layout_of table.Unit

-- the table that is filled, and the number of the schema that adds it
abbrev pub target_of : Fill → TableName
target_of Calls = table.Kept
target_of Classes = table.VersionClass
target_of Marks = table.UnitMark

abbrev pub schema_with : Fill → ℕ
schema_with Calls = 2
schema_with Classes = 3
schema_with Marks = 3

-- the key of the row made from the row of a number, and back: that number from the key
abbrev pub filled_key : Fill → ℕ → RowKey
filled_key Calls host = kept_key host 0
filled_key Classes id = class_key id
filled_key Marks id = mark_key id

abbrev pub filled_from : Fill → RowKey → Option ℕ
filled_from Calls (kept_key host slot) = if slot == 0 then Some host else None
filled_from Classes (class_key id) = Some id
filled_from Marks (mark_key id) = Some id
filled_from _ _ = None

-- the row made from the columns of the row of a number, and its columns
abbrev pub filled_row : Fill → ℕ → Row → StoredRow
filled_row Calls host c = Kept (record { host_id = host; slot = 0; seqno = number_of (column c 1); text = bytes_of (column c 2); reply = bytes_of (column c 3) })
filled_row Classes id c = VersionClass (record { version_id = id; class = bytes_of (column c 2) })
filled_row Marks id c = UnitMark (record { unit_id = id; marked = false; class = None })

abbrev pub filled_columns : Fill → Row → Row
filled_columns Calls c = column c 0 ∷ whole 0 ∷ column c 1 ∷ column c 2 ∷ column c 3 ∷ []
filled_columns Classes c = column c 0 ∷ column c 2 ∷ []
filled_columns Marks c = column c 0 ∷ whole 0 ∷ Null ∷ []

-- ---- the texts

-- the least number of a row of the source that is not below the parameter
abbrev pub next_text : Fill → List ℕ
next_text Calls = codes "SELECT host_id FROM kept WHERE host_id >= ?1 ORDER BY host_id LIMIT 1"
next_text Classes = codes "SELECT id FROM version WHERE id >= ?1 ORDER BY id LIMIT 1"
next_text Marks = codes "SELECT id FROM unit WHERE id >= ?1 ORDER BY id LIMIT 1"

-- inserts the row made from the row of a number
abbrev pub fill_text : Fill → List ℕ
fill_text Calls = codes "INSERT INTO kept4 (host_id, slot, seqno, text, reply) SELECT host_id, 0, seqno, text, reply FROM kept WHERE host_id = ?1 ORDER BY host_id"
fill_text Classes = codes "INSERT INTO version_class (version_id, class) SELECT id, platform FROM version WHERE id = ?1 ORDER BY id"
fill_text Marks = codes "INSERT INTO unit_mark (unit_id, marked, class) SELECT id, 0, NULL FROM unit WHERE id = ?1 ORDER BY id"

-- ---- rows by their numbers

abbrev pub NumberedRows : Type 0
NumberedRows = ℕ → Option Row

-- the columns of the row of a number, in a table whose rows are identified by number
abbrev pub numbered_row : Layout → Trees → NumberedRows
numbered_row l trees n = option_map (λ row. map (column row) (column_places l)) (find (λ row. agree plain (0 ∷ []) row (0 ∷ []) (whole n ∷ [])) (trees l.tree))

-- The table has exactly these rows.
pub record Keeps (l : Layout) (trees : Trees) (rows : NumberedRows) : Type 0 where
  pub ordered : IsShaped TableTree (trees l.tree)
  pub kept : (n : ℕ) → numbered_row l trees n ≡ rows n

-- Each row has the form that the fill expects.
abbrev pub AreFit : Fill → NumberedRows → Type 0
AreFit f rows = (n : ℕ) (c : Row) → rows n ≡ Some c → filled_columns f c ≡ columns_of (filled_row f n c)

-- the rows with numbers below `end`
abbrev pub below : ℕ → NumberedRows → NumberedRows
below end rows n = if nat_lt n end then rows n else None

-- no row has a number that is at least `from` and below `end`; then the next row from `from` on, or none
abbrev pub HasNoRow : Layout → Trees → ℕ → ℕ → Type 0
HasNoRow l trees from end = (n : ℕ) → from ≤ n → n < end → numbered_row l trees n ≡ None

abbrev pub IsNextRow : Layout → Trees → ℕ → Option ℕ → Type 0
IsNextRow l trees from None = (n : ℕ) → from ≤ n → numbered_row l trees n ≡ None
IsNextRow l trees from (Some next) = (from ≤ next) × HasNoRow l trees from next

-- ---- the calls of the first schema

-- the row of the call that the first schema keeps of the host of a number
abbrev pub former_call : Trees → ℕ → Option Row
former_call = numbered_row former_kept

abbrev pub former_columns : ℕ → Call → Row
former_columns host call = whole host ∷ whole call.seqno ∷ Text call.text ∷ Text call.reply ∷ []

-- the calls of the first schema, by the number of their host
abbrev pub HostCalls : Type 0
HostCalls = ℕ → Option Call

-- The tables keep exactly these calls, each under the number of its host.
pub record KeepCalls (trees : Trees) (calls : HostCalls) : Type 0 where
  pub ordered : IsShaped TableTree (trees former_kept.tree)
  pub kept : (host : ℕ) → former_call trees host ≡ option_map (former_columns host) (calls host)

-- ---- what a fill inserts

-- the class of a version is its platform
abbrev pub platform_class : ℕ → StoredRow → Option StoredRow
platform_class id (Version v) = Some (VersionClass (record { version_id = id; class = v.platform }))
platform_class id _ = None

-- the mark of a workunit that is not marked
abbrev pub no_mark : ℕ → StoredRow
no_mark id = UnitMark (record { unit_id = id; marked = false; class = None })

-- the row that a fill inserts at a key of its table
abbrev pub brought : Fill → HostCalls → Contents → RowKey → Option StoredRow
brought Calls calls contents (kept_key host slot) = if slot == 0 then option_map (λ k. Kept (call_row host slot k)) (calls host) else None
brought Classes calls contents (class_key id) = option_and_then (platform_class id) (contents (version_key id))
brought Marks calls contents (mark_key id) = option_map (λ _. no_mark id) (contents (unit_key id))
brought _ _ _ _ = None

-- these contents, except that the filled table has what the fill inserts
abbrev pub with_inserted : HostCalls → Contents → Fill → Contents
with_inserted calls contents f key = if tree_of (table_at key) == tree_of (target_of f) then brought f calls contents key else contents key

-- ---- in the middle of a fill

-- these contents, with the rows made from `rows` in the filled table
abbrev pub with_filled : Fill → Contents → NumberedRows → Contents
with_filled f contents rows key = unwrap_or (option_map (λ n. option_map (filled_row f n) (rows n)) (filled_from f key)) (contents key)

-- Each tree of the schema is as it was at the start, except that of the filled table.
abbrev pub OthersStay : Fill → Trees → Trees → Type 0
OthersStay f start now = (tree : ℕ) → has_tree (schema_with f) tree ≡ true → tree ≢ tree_of (target_of f) → now tree ≡ start tree

-- The rows made from the rows below `end` are there.
pub record Filled (f : Fill) (end : ℕ) (start db : Database) (contents : Contents) (rows : NumberedRows) : Type 0 where
  pub holds : HoldAt (schema_with f) db (with_filled f contents (below end rows))
  pub kept : Keeps (source_of f) db.trees rows
  pub others : OthersStay f start.trees db.trees

-- If the rows made from those below `from` were there, the rows made from those below `end` are there now.
abbrev pub Fills : Fill → ℕ → ℕ → Database → Database → Type 0
Fills f from end old new = (start : Database) (contents : Contents) (rows : NumberedRows) → AreFit f rows → Filled f from start old contents rows → Filled f end start new contents rows

-- The rows made from all rows are there.
pub record AllFilled (f : Fill) (start db : Database) (contents : Contents) (rows : NumberedRows) : Type 0 where
  pub holds : HoldAt (schema_with f) db (with_filled f contents rows)
  pub others : OthersStay f start.trees db.trees

-- If the rows made from those below `from` were there, those made from all rows are there now.
abbrev pub FillsAll : Fill → ℕ → Database → Database → Type 0
FillsAll f from old new = (start : Database) (contents : Contents) (rows : NumberedRows) → AreFit f rows → Filled f from start old contents rows → AllFilled f start new contents rows

abbrev pub FillsNext : Fill → ℕ → Option ℕ → Database → Database → Type 0
FillsNext f from None old new = FillsAll f from old new
FillsNext f from (Some end) old new = Fills f from end old new

-- each of these fills was made, one after another
abbrev pub FillsEach : List Fill → Database → Database → Type 0
FillsEach [] old new = new ≡ old
FillsEach (f ∷ more) old new = (mid : Database) × FillsAll f 0 old mid × FillsEach more mid new
