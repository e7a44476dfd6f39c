-- Words. What tables determine of the world that they hold.
use Rattle.std.specs.Prelude.{◌≡◌, ℕ, List, Option}
use Rattle.sched_book.specs.Sound.{Sound}
use Rattle.sched_book.specs.declared.world.World.{World}
use Rattle.sqlite.specs.Effect.{Database}
use Rattle.table_meaning.specs.Worlds.{BatchText, SlotCalls, HoldWorld}

-- tables hold at most one sound world, for any calls and imports that they keep
abbrev pub TablesHoldOneWorld : Type 0
TablesHoldOneWorld =
    (db other : Database) (w v : World) (calls later : SlotCalls) (batches newer : List ℕ → List ℕ → Option BatchText)
    → db.trees ≡ other.trees → Sound w → Sound v → HoldWorld db w calls batches → HoldWorld other v later newer → w ≡ v
