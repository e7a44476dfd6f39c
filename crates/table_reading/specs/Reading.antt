-- Rule. The conditions on the rows of tables so that a world can be read from them.
use Rattle.std.specs.Prelude.{◌≡◌, ℕ, Bool, false, not, ◌&&◌, ◌==◌, nat_le, nat_lt, max, IsTrue, List, [], ◌∷◌, ◌++◌, map, fold, length, is_some, Option, IfSome}
use Rattle.std.specs.List.{AllByRecursion, list_all}
use Rattle.sqlite.specs.State.{State, HasCleanDisk}
use Rattle.sqlite_rules.specs.Lists.{Has}
use Rattle.sqlite_trees.specs.Tree.{Trees}
use Rattle.texts.specs.Words.{is_word}
use Rattle.reply_register.specs.Keeping.{most_kept}
use Rattle.stores.specs.Kinds.{kind_of}
use Rattle.stores.specs.Standing.{last_seqno, most_import_bytes}
use Rattle.sched_book.specs.Places.{host_at}
use Rattle.sched_book.specs.Sound.{Sound}
use Rattle.sched_book.specs.declared.world.World.{World}
use Rattle.table_meaning.specs.declared.rows.StoredRow.{StoredRow}
use Rattle.table_meaning.specs.declared.rows.StoredRow.TheVariants as stored
use Rattle.table_meaning.specs.declared.tables.TableName.{TableName}
use Rattle.table_meaning.specs.declared.tables.TableName.TheVariants as name
use Rattle.table_meaning.specs.Formats.{HasBadRow}
use Rattle.table_meaning.specs.Holding.{AreKnown}
use Rattle.table_meaning.specs.Rows.{RowKey, table_of, columns_of, rows_in, look_up}
use Rattle.table_meaning.specs.Worlds.{BatchText, SlotCalls, call_row}
use Rattle.table_decoding.specs.Decoding.{schema_row}
use Rattle.table_rows.specs.Utf8.{HasUtf8}
use Rattle.table_worlds.specs.RowsOf.{WorldRows, AreRowsOf, AreRead, other_rows}
use Rattle.table_reading.specs.Counting.{noted, none_noted}
use Rattle.table_reading.specs.declared.rows.Reading.{Reading}

-- the tables, in the order in which they are read
abbrev pub all_tables : List TableName
all_tables = name.Setting ∷ name.Account ∷ name.App ∷ name.Version ∷ name.VersionClass ∷ name.Unit ∷ name.UnitMark ∷ name.Host ∷ name.Instance ∷ name.Kept ∷ name.Batch ∷ []

-- the rows of all tables
pub record AllRows : Type 0 where
  pub world : WorldRows
  pub calls : List StoredRow
  pub batches : List StoredRow

-- these are all rows of all tables
pub record AreAllRead (trees : Trees) (all : AllRows) : Type 0 where
  pub world : AreRead trees all.world
  pub calls : map columns_of all.calls ≡ rows_in trees name.Kept
  pub batches : map columns_of all.batches ≡ rows_in trees name.Batch

-- the rows of workunits, of marks and of instances have the types of their tables
pub record AreTyped (all : AllRows) : Type 0 where
  pub units : AllByRecursion (λ r. table_of r ≡ name.Unit) all.world.units
  pub marks : AllByRecursion (λ r. table_of r ≡ name.UnitMark) all.world.marks
  pub instances : AllByRecursion (λ r. table_of r ≡ name.Instance) all.world.instances

-- a kept call of this world: its host exists, and its slot and its number are in range
abbrev pub is_call_of : World → StoredRow → Bool
is_call_of w (stored.Kept k) = is_some (host_at w k.host_id) && (nat_lt k.slot most_kept && nat_le k.seqno last_seqno)
is_call_of w other = false

-- a kept import: it is of one of the four kinds, its name is a word, and it is not too long
abbrev pub is_import : StoredRow → Bool
is_import (stored.Batch b) = is_some (kind_of b.kind) && (is_word b.name && nat_le (length b.text) most_import_bytes)
is_import other = false

-- ---- what a reading keeps of the rows

-- a kept call of some host: its slot and its number are in range
abbrev pub is_call : StoredRow → Bool
is_call (stored.Kept k) = not (k.host_id == 0) && (nat_lt k.slot most_kept && nat_le k.seqno last_seqno)
is_call other = false

-- the greater of a number and that of the call's host
abbrev pub later_host : ℕ → StoredRow → ℕ
later_host n (stored.Kept k) = max n k.host_id
later_host n other = n

abbrev pub reading_of : AllRows → Reading
reading_of all = record { rows = other_rows all.world; units = fold noted (fold noted (fold noted none_noted all.world.units) all.world.marks) all.world.instances; are_calls = list_all is_call all.calls; last_host = fold later_host 0 all.calls; are_imports = list_all is_import all.batches }

abbrev pub no_rows : AllRows
no_rows = record { world = record { settings = []; accounts = []; apps = []; versions = []; classes = []; units = []; marks = []; hosts = []; instances = [] }; calls = []; batches = [] }

-- a reading with one more row
abbrev pub with_row : Reading → StoredRow → Reading
with_row r (stored.Setting s) = record r { rows = record r.rows { settings = r.rows.settings ++ stored.Setting s ∷ [] } }
with_row r (stored.Account a) = record r { rows = record r.rows { accounts = r.rows.accounts ++ stored.Account a ∷ [] } }
with_row r (stored.App a) = record r { rows = record r.rows { apps = r.rows.apps ++ stored.App a ∷ [] } }
with_row r (stored.Version v) = record r { rows = record r.rows { versions = r.rows.versions ++ stored.Version v ∷ [] } }
with_row r (stored.VersionClass c) = record r { rows = record r.rows { classes = r.rows.classes ++ stored.VersionClass c ∷ [] } }
with_row r (stored.Unit u) = record r { units = noted r.units (stored.Unit u) }
with_row r (stored.UnitMark m) = record r { units = noted r.units (stored.UnitMark m) }
with_row r (stored.Host h) = record r { rows = record r.rows { hosts = r.rows.hosts ++ stored.Host h ∷ [] } }
with_row r (stored.Instance i) = record r { units = noted r.units (stored.Instance i) }
with_row r (stored.Kept k) = record r { are_calls = r.are_calls && is_call (stored.Kept k); last_host = later_host r.last_host (stored.Kept k) }
with_row r (stored.Batch b) = record r { are_imports = r.are_imports && is_import (stored.Batch b) }

-- ---- worlds that rows represent

-- These rows are those of a sound world, and of calls and imports that may be kept with it.
pub record Represent (w : World) (all : AllRows) : Type 0 where
  pub sound : Sound w
  pub rows : AreRowsOf w all.world
  pub calls : IsTrue (list_all (is_call_of w) all.calls)
  pub batches : IsTrue (list_all is_import all.batches)

-- These calls and imports may be kept with a world.
pub record MayBeKeptWith (w : World) (calls : SlotCalls) (batches : List ℕ → List ℕ → Option BatchText) : Type 0 where
  pub calls_fit : (host slot : ℕ) → IfSome (calls host slot) (λ k. IsTrue (is_call_of w (stored.Kept (call_row host slot k))))
  pub imports_fit : (kind text : List ℕ) → IfSome (batches kind text) (λ b. IsTrue (is_import (stored.Batch (record { kind = kind; name = text; text = b.0; answer = b.1 }))))

-- Each text of each row at a key is in UTF-8 (RFC 3629).
abbrev pub AreUtf8 : Trees → Type 0
AreUtf8 trees = (key : RowKey) → IfSome (look_up trees key) HasUtf8

-- Rows that were read from the tables represent the world.
abbrev pub ReadFrom : Trees → World → Type 0
ReadFrom trees w = (all : AllRows) × AreAllRead trees all × Represent w all

-- Rows that were read from the tables represent no world.
abbrev pub RepresentNone : Trees → Type 0
RepresentNone trees = (all : AllRows) × AreAllRead trees all × ((w : World) → ¬ Represent w all)

-- some row of some table does not have the format of that table
abbrev pub HasBadTable : Trees → Type 0
HasBadTable trees = (t : TableName) × HasBadRow t (rows_in trees t)

-- the settings were read, and none of their rows names this schema
abbrev pub HasOtherSchema : Trees → Type 0
HasOtherSchema trees = (all : AllRows) × AreAllRead trees all × ¬ Has all.world.settings schema_row

-- The disk returned what was written, and the connection is open. There were no uncommitted changes, and the tables were known ones.
pub record WereKnown (old new : State) : Type 0 where
  pub clean : HasCleanDisk new
  pub is_open : IsTrue new.is_open
  pub rests : old.now ≡ old.committed
  pub known : AreKnown old.now
