-- Rule. What an entry puts into the tables, and what they keep afterwards.
use Rattle.std.specs.Prelude.{◌≡◌, ℕ, List, Option, Some, None, option_map}
use Rattle.sqlite.specs.Effect.{Database}
use Rattle.sqlite_trees.specs.Tree.{Trees}
use Rattle.sched_book.specs.declared.delta.Delta.{Delta}
use Rattle.sched_book.specs.declared.world.World.{World}
use Rattle.stores.specs.Held.{Calls, Batches}
use Rattle.stores.specs.declared.entry.Entry.{Entry}
use Rattle.stores.specs.declared.entry.Entry.TheVariants as entry
use Rattle.stores.specs.Kinds.{kind_name}
use Rattle.stores.specs.declared.batch.KeptBatch.{KeptBatch}
use Rattle.table_meaning.specs.declared.rows.StoredRow.{StoredRow}
use Rattle.table_meaning.specs.declared.rows.StoredRow.TheVariants as stored
use Rattle.table_meaning.specs.Kept.{calls_in, batches_in}
use Rattle.table_meaning.specs.Worlds.{BatchText, SlotCalls, call_row}
use Rattle.sched_tables.specs.Commits.{AreRowsToCommit, MakesWorld}
use Rattle.sched_tables.specs.Slots.{calls_in_slots}
use Rattle.table_cache.specs.NextSlot.{IsSlotFor}

-- An entry puts a call into the slot for it, an import at its kind and name, or nothing.
abbrev pub IsRowOf : SlotCalls → Entry → Option StoredRow → Type 0
IsRowOf calls (entry.Kept host k) row = (slot : ℕ) × IsSlotFor (calls host) slot × (row ≡ Some (stored.Kept (call_row host slot k)))
IsRowOf calls (entry.Batch kind name b) row = row ≡ Some (stored.Batch (record { kind = kind_name kind; name = name; text = b.text; answer = b.answer }))
IsRowOf calls entry.Nothing row = row ≡ None

-- These rows lead from a world to the one with the changes made, and the row that the entry puts is the last.
abbrev pub ArePutWith : World → Delta → SlotCalls → Entry → List StoredRow → Type 0
ArePutWith w cs calls e rows = (row : Option StoredRow) × IsRowOf calls e row × AreRowsToCommit w cs row rows

-- If the old tables held a world, the new ones hold it with the changes made, and with what the entry puts.
abbrev pub MakesWith : World → Delta → Entry → Database → Database → Type 0
MakesWith w cs e old new = (row : Option StoredRow) × IsRowOf (calls_in old.trees) e row × MakesWorld w cs row old new

-- ---- what is kept, as a store says it

abbrev pub kept_batch : BatchText → KeptBatch
kept_batch b = record { text = b.0; answer = b.1 }

abbrev pub calls_of : Trees → Calls
calls_of trees host = calls_in_slots (calls_in trees host)

abbrev pub batches_of : Trees → Batches
batches_of trees kind name = option_map kept_batch (batches_in trees (kind_name kind) name)
