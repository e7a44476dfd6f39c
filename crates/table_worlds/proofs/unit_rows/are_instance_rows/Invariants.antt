use Rattle.std.proofs.Common.{◌≡◌, ◌-◌, take}
use Rattle.sched_book.specs.Numbered.{map_from}
use Rattle.sched_book.specs.Places.{status_of}
use Rattle.sched_book.specs.declared.instance.UnitBook.{UnitBook}
use Rattle.sched_book.specs.declared.world.World.{World}
use Rattle.table_meaning.specs.Worlds.{instance_row}
use Rattle.table_worlds.proofs.unit_rows.are_instance_rows.Given as goal

-- the rows so far are those of the instances so far
abbrev pub invariant-loop-index : goal.invariant-loop-index
invariant-loop-index l = (w : World) (b : UnitBook) → l.status ≡ status_of w b → take l.index l.rows ≡ map_from 1 (λ n x. instance_row w b l.unit (n - 1) x) (take l.index l.instances)
