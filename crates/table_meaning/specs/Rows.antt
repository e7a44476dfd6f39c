-- Rule. The rows of the tables as SQL has them: the columns of each, and its key.
use Rattle.std.specs.Prelude.{ℕ, pos, Bool, ◌&&◌, ◌==◌, if◌then◌else◌, List, [], ◌∷◌, map, length, find, Option, option_map}
use Rattle.std.specs.List.{range_with_len}
use Rattle.sqlite_value.specs.declared.value.Value.{Value}
use Rattle.sqlite_value.specs.declared.value.Value.TheVariants.{Int, Text, Blob}
use Rattle.sqlite_value.specs.Order.{Row, column}
use Rattle.sqlite_value.specs.Keys.{plain}
use Rattle.sqlite_trees.specs.Tree.{Trees}
use Rattle.sqlite_schema.specs.Rules.{agree}
use Rattle.sqlite.specs.Values.{or_null}
use Rattle.table_meaning.specs.declared.tables.TableName.{TableName}
use Rattle.table_meaning.specs.declared.tables.TableName.TheVariants as table
use Rattle.table_meaning.specs.declared.rows.SettingValue.{SettingValue}
use Rattle.table_meaning.specs.declared.rows.SettingValue.TheVariants.{Number, Word}
use Rattle.table_meaning.specs.declared.rows.StoredRow.{StoredRow}
use Rattle.table_meaning.specs.declared.rows.StoredRow.TheVariants.{Setting, Account, App, Version, Unit, Host, Instance, Kept, Batch, VersionClass, UnitMark}
use Rattle.table_meaning.specs.Layouts.{layout_of, column_places, of_key}

-- the tree of a table's rows
abbrev pub tree_of : TableName → ℕ
tree_of t = (layout_of t).tree

-- The places of the columns in a row of the tree. Place 0 is the row's number, which is the first column of most tables.
abbrev pub places_of : TableName → List ℕ
places_of t = column_places (layout_of t)

-- the places of the key's columns
abbrev pub key_places : TableName → List ℕ
key_places t = of_key (layout_of t) (places_of t)

-- the columns that a row of the tree shows
abbrev pub shown : TableName → Row → Row
shown t row = map (column row) (places_of t)

-- the rows of a table in the order of its tree, as a read of the whole table shows them
abbrev pub rows_in : Trees → TableName → List Row
rows_in trees t = map (shown t) (trees (tree_of t))

-- ---- rows with names and types

abbrev pub whole : ℕ → Value
whole n = Int (pos n)

abbrev pub setting_value : SettingValue → Value
setting_value (Number n) = whole n
setting_value (Word w) = Text w

abbrev pub columns_of : StoredRow → Row
columns_of (Setting s) = Text s.name ∷ setting_value s.value ∷ []
columns_of (Account a) = whole a.id ∷ Text a.auth ∷ Text a.name ∷ []
columns_of (App a) = whole a.id ∷ Text a.name ∷ or_null whole a.agreement ∷ []
columns_of (Version v) = whole v.id ∷ whole v.app_id ∷ Text v.platform ∷ whole v.num ∷ []
columns_of (Unit u) =
    whole u.id
    ∷ Text u.name
    ∷ whole u.app_id
    ∷ whole u.min_quorum
    ∷ whole u.target_nresults
    ∷ whole u.max_error_results
    ∷ whole u.max_total_results
    ∷ whole u.max_success_results
    ∷ whole u.delay_bound
    ∷ Int u.rsc_fpops_est
    ∷ Int u.rsc_memory_bound
    ∷ Int u.rsc_disk_bound
    ∷ whole u.credit
    ∷ whole u.status
    ∷ []
columns_of (Host h) = whole h.id ∷ whole h.account_id ∷ Text h.cpid ∷ Text h.platforms ∷ Int h.fpops ∷ Int h.memory ∷ Int h.disk ∷ whole h.quota ∷ whole h.held ∷ Int h.credit ∷ []
columns_of (Instance i) =
    whole i.unit_id
    ∷ whole i.num
    ∷ or_null whole i.host_id
    ∷ or_null Int i.sent
    ∷ or_null Int i.deadline
    ∷ whole i.lapse
    ∷ or_null whole i.outcome
    ∷ or_null Text i.output
    ∷ or_null whole i.place
    ∷ whole (if i.queued then 1 else 0)
    ∷ []
columns_of (Kept k) = whole k.host_id ∷ whole k.slot ∷ whole k.seqno ∷ Text k.text ∷ Text k.reply ∷ []
columns_of (Batch b) = Text b.kind ∷ Text b.name ∷ Blob b.text ∷ Text b.answer ∷ []
columns_of (VersionClass c) = whole c.version_id ∷ Text c.class ∷ []
columns_of (UnitMark m) = whole m.unit_id ∷ whole (if m.marked then 1 else 0) ∷ or_null Text m.class ∷ []

-- ---- keys

-- what names at most one row
pub data RowKey : Type 0 where
  setting_key : List ℕ → RowKey
  account_key : ℕ → RowKey
  app_key : ℕ → RowKey
  version_key : ℕ → RowKey
  unit_key : ℕ → RowKey
  host_key : ℕ → RowKey
  -- the unit, and the number in it
  instance_key : ℕ → ℕ → RowKey
  -- the host, and its slot
  kept_key : ℕ → ℕ → RowKey
  -- the kind and the name
  batch_key : List ℕ → List ℕ → RowKey
  -- of a version, and of a workunit
  class_key : ℕ → RowKey
  mark_key : ℕ → RowKey

abbrev pub table_at : RowKey → TableName
table_at (setting_key name) = table.Setting
table_at (account_key id) = table.Account
table_at (app_key id) = table.App
table_at (version_key id) = table.Version
table_at (unit_key id) = table.Unit
table_at (host_key id) = table.Host
table_at (instance_key unit num) = table.Instance
table_at (kept_key host slot) = table.Kept
table_at (batch_key kind name) = table.Batch
table_at (class_key id) = table.VersionClass
table_at (mark_key id) = table.UnitMark

abbrev pub key_columns : RowKey → Row
key_columns (setting_key name) = Text name ∷ []
key_columns (account_key id) = whole id ∷ []
key_columns (app_key id) = whole id ∷ []
key_columns (version_key id) = whole id ∷ []
key_columns (unit_key id) = whole id ∷ []
key_columns (host_key id) = whole id ∷ []
key_columns (instance_key unit num) = whole unit ∷ whole num ∷ []
key_columns (kept_key host slot) = whole host ∷ whole slot ∷ []
key_columns (batch_key kind name) = Text kind ∷ Text name ∷ []
key_columns (class_key id) = whole id ∷ []
key_columns (mark_key id) = whole id ∷ []

abbrev pub row_key_of : StoredRow → RowKey
row_key_of (Setting s) = setting_key s.name
row_key_of (Account a) = account_key a.id
row_key_of (App a) = app_key a.id
row_key_of (Version v) = version_key v.id
row_key_of (Unit u) = unit_key u.id
row_key_of (Host h) = host_key h.id
row_key_of (Instance i) = instance_key i.unit_id i.num
row_key_of (Kept k) = kept_key k.host_id k.slot
row_key_of (Batch b) = batch_key b.kind b.name
row_key_of (VersionClass c) = class_key c.version_id
row_key_of (UnitMark m) = mark_key m.unit_id

abbrev pub table_of : StoredRow → TableName
table_of row = table_at (row_key_of row)

abbrev pub slots_of : RowKey → List ℕ
slots_of key = range_with_len 0 (length (key_columns key))

-- the row of the tree has this key, as SQL compares its columns
abbrev pub has_key : RowKey → Row → Bool
has_key key row = agree plain (key_places (table_at key)) row (slots_of key) (key_columns key)

-- Two keys are the same if they are of one table and SQL finds their columns equal.
abbrev pub same_row_key : RowKey → RowKey → Bool
same_row_key a b = (tree_of (table_at a) == tree_of (table_at b)) && agree plain (slots_of b) (key_columns b) (slots_of a) (key_columns a)

-- the columns of the row at a key, if it exists
abbrev pub look_up : Trees → RowKey → Option Row
look_up trees key = option_map (shown (table_at key)) (find (has_key key) (trees (tree_of (table_at key))))
