-- Rule. What tables of a schema hold, as a store says it.
use Rattle.std.specs.Prelude.{option_map}
use Rattle.sched_book.specs.declared.world.World.{World}
use Rattle.stores.specs.Held.{Held}
use Rattle.stores.specs.Kinds.{kind_name}
use Rattle.table_meaning.specs.Worlds.{SlotCalls}
use Rattle.sched_tables.specs.Commits.{Imports}
use Rattle.sched_tables.specs.Entries.{kept_batch}
use Rattle.sched_tables.specs.Slots.{calls_in_slots}

-- A world, the calls of each host in its slots, and imports. If a host has one slot, its calls are the one in that slot, if there is one.
abbrev pub held_with : World → SlotCalls → Imports → Held
held_with w calls batches = record { world = w; calls = λ host. calls_in_slots (calls host); batches = λ kind name. option_map kept_batch (batches (kind_name kind) name) }
