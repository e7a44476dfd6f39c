-- Rule. What a commit makes of tables.
use Rattle.std.specs.Prelude.{◌≡◌, ℕ, Bool, false, List, [], ◌++◌, Option, Some}
use Rattle.std.specs.List.{AllByRecursion, list_any, cons_option}
use Rattle.sqlite.specs.Effect.{Database}
use Rattle.sched_book.specs.Delta.{applied}
use Rattle.sched_book.specs.declared.delta.Delta.{Delta}
use Rattle.sched_book.specs.declared.delta.Delta.TheVariants as delta
use Rattle.sched_book.specs.declared.rows.App.{App}
use Rattle.sched_book.specs.declared.rows.Rows.TheVariants as kinds
use Rattle.sched_book.specs.declared.world.World.{World}
use Rattle.table_meaning.specs.declared.rows.StoredRow.{StoredRow}
use Rattle.table_meaning.specs.Rows.{RowKey, kept_key, batch_key, row_key_of, same_row_key}
use Rattle.table_meaning.specs.Worlds.{BatchText, SlotCalls, contents_of, HoldWorld}
use Rattle.table_reading.specs.Reading.{AreUtf8}
use Rattle.table_worlds.specs.Changes.{AreChanges}
use Rattle.table_worlds.specs.Readable.{IsReadable}

abbrev pub Imports : Type 0
Imports = List ℕ → List ℕ → Option BatchText

abbrev pub is_among : List StoredRow → RowKey → Bool
is_among rows key = list_any (λ row. same_row_key key (row_key_of row)) rows

-- These rows lead from what was kept to what is kept afterwards. Each row is what its key has afterwards, and every call or batch at
-- another key stays the same.
pub record AreRowsToKeep (w : World) (rows : List StoredRow) (calls : SlotCalls) (batches : Imports) (calls' : SlotCalls) (batches' : Imports) : Type 0 where
  pub each : AllByRecursion (λ r. contents_of w calls' batches' (row_key_of r) ≡ Some r) rows
  pub other_calls : (host slot : ℕ) → is_among rows (kept_key host slot) ≡ false → calls host slot ≡ calls' host slot
  pub other_batches : (kind name : List ℕ) → is_among rows (batch_key kind name) ≡ false → batches kind name ≡ batches' kind name

-- These rows lead from a world to the one with the changes made, and one more row follows if there is one. The rows of the new world
-- determine it.
pub record AreRowsToCommit (w : World) (cs : Delta) (more : Option StoredRow) (rows : List StoredRow) : Type 0 where
  pub changed : List StoredRow
  pub are : AreChanges w (applied w cs) changed
  pub all : rows ≡ changed ++ cons_option more []
  pub readable : IsReadable (applied w cs)

-- If the old tables held a world, the new ones hold it with the changes made and one more row, for any calls and batches.
abbrev pub LeadsTo : World → Delta → Option StoredRow → Database → Database → Type 0
LeadsTo w cs more old new = (calls calls' : SlotCalls) (batches batches' : Imports)
    → AreRowsToKeep (applied w cs) (cons_option more []) calls batches calls' batches' → HoldWorld old w calls batches → HoldWorld new (applied w cs) calls' batches'

-- If the old tables held a world and their texts were in UTF-8, those of the new ones are too.
abbrev pub KeepsUtf8 : World → Database → Database → Type 0
KeepsUtf8 w old new = (calls : SlotCalls) (batches : Imports) → HoldWorld old w calls batches → AreUtf8 old.trees → AreUtf8 new.trees

-- The new tables hold the new world, its rows determine it, and texts in UTF-8 stay so.
pub record MakesWorld (w : World) (cs : Delta) (more : Option StoredRow) (old new : Database) : Type 0 where
  pub leads : LeadsTo w cs more old new
  pub readable : IsReadable (applied w cs)
  pub texts : KeepsUtf8 w old new

-- the applications, with those that changes bring
abbrev pub apps_with : List App → Delta → List App
apps_with apps (delta.Rows (kinds.Accounts xs)) = apps
apps_with apps (delta.Rows (kinds.Apps xs)) = apps ++ xs
apps_with apps (delta.Rows (kinds.Versions xs)) = apps
apps_with apps (delta.Rows (kinds.Workunits xs)) = apps
apps_with apps (delta.Edits edits) = apps
