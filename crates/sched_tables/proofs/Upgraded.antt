-- What an upgrade leaves of a world, and what tables say of it afterwards.
use Rattle.std.proofs.Common.{◌≡◌, option_map, ap, IsTrue}
use Rattle.sqlite.specs.Effect.{Database}
use Rattle.sqlite.specs.State.{State, Survives}
use Rattle.sqlite.proofs.StateLemmas.{survives_weaker}
use Rattle.sched_book.specs.Sound.{Sound}
use Rattle.sched_book.specs.declared.world.World.{World}
use Rattle.stores.specs.Held.{IsLeft}
use Rattle.stores.specs.Kinds.{kind_name}
use Rattle.table_meaning.specs.Upgrades.{IsLeftBehind, IsLeftBehindWorld, UpgradesWorld}
use Rattle.table_meaning.specs.Worlds.{SlotCalls, HoldWorld}
use Rattle.table_meaning.proofs.UpgradedWorlds.{left_world}
use Rattle.table_worlds.proofs.StaysReadable.{sound_is_readable}
use Rattle.table_worlds.proofs.WorldReadBack.{held_is_read_back}
use Rattle.sched_tables.specs.Commits.{Imports}
use Rattle.sched_tables.specs.Entries.{kept_batch}
use Rattle.sched_tables.specs.Laws.{UpgradedHold}
use Rattle.sched_tables.specs.Slots.{calls_in_slots}
use Rattle.sched_tables.specs.Upgrading.{held_with}
use Rattle.sched_tables.specs.Views.{held_in}
use Rattle.sched_tables.proofs.EntriesKept.{calls_back, batches_back}

-- what a stop leaves of an upgrade also holds the world
pub survives_world : (old new : State) → Survives old new (λ trees. IsTrue old.is_open × (db : Database) × IsLeftBehind old.now db × (trees ≡ db.trees))
    → Survives old new (λ trees. IsTrue old.is_open × (db : Database) × IsLeftBehindWorld old.now db × (trees ≡ db.trees))
survives_world old new = survives_weaker old new _ _ (λ _ trees left. (left.0, left.1, left_world old.now left.1 left.2, left.3))

-- tables that hold a sound world hold it as a store says it
holds_as_left : (db : Database) (w : World) (calls : SlotCalls) (batches : Imports) → Sound w → HoldWorld db w calls batches → IsLeft (held_with w calls batches) (held_in db.trees)
holds_as_left db w calls batches sound holds = record {
  world_is = held_is_read_back db w _ _ holds (sound_is_readable w sound);
  calls_are = λ host. ap calls_in_slots (λ i slot. calls_back db w calls batches holds host slot i);
  batches_are = λ kind name. ap (option_map kept_batch) (batches_back db w calls batches holds (kind_name kind) name);
}

pub upgraded_hold : (old new : Database) → UpgradesWorld old new → UpgradedHold old (held_in new.trees)
upgraded_hold old new upgrades n is w calls batches sound fits held = holds_as_left new w calls batches sound (upgrades n is w calls batches fits held)
