-- Words. What a look-up of the stored tables answers, and for which worlds.
use Rattle.std.specs.Prelude.{◌≡◌, ℕ, List, Option, IsTrue}
use Rattle.sched_book.specs.declared.world.World.{World}
use Rattle.sqlite_trees.specs.declared.store.Store.{Ghosts}
use Rattle.sqlite.specs.Effect.{Database}
use Rattle.sqlite.specs.Held.{Held, state}
use Rattle.sqlite.specs.State.{HasCleanDisk}
use Rattle.table_meaning.specs.Worlds.{BatchText, SlotCalls, HoldWorld}
use Rattle.table_worlds.specs.Readable.{IsReadable}

-- The tables hold this world, along with any kept calls and batches, and its rows determine it.
pub record Tell (db : Database) (w : World) : Type 0 where
  pub calls : SlotCalls
  pub batches : List ℕ → List ℕ → Option BatchText
  pub holds : HoldWorld db w calls batches
  pub readable : IsReadable w

-- Suppose the disk returned what was written, the connection is open, and no change was waiting for a commit. Then this holds of each
-- world that the tables held before the look-up.
abbrev pub LooksUp : {S : Type 0} → Ghosts S → Held S → Held S → (World → Type 0) → Type 0
LooksUp store old new says = HasCleanDisk (state store new) → IsTrue (state store new).is_open → (state store old).now ≡ (state store old).committed → (w : World) → Tell (state store old).now w → says w
