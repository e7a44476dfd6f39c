use Rattle.std.proofs.Common.{◌≡◌, Some}
use Rattle.std.specs.Prelude.{replicate}
use Rattle.sched_book.specs.Places.{unit_at, status_of}
use Rattle.sched_book.specs.Settle.{fresh}
use Rattle.sched_book.specs.declared.instance.UnitBook.{UnitBook}
use Rattle.sched_book.specs.declared.world.World.{World}
use Rattle.table_changes.specs.Added.{AreAdded}
use Rattle.table_changes.proofs.InTurn.{is_instance_below}
use Rattle.table_changes.proofs.imports.push_fresh.Given as goal

-- the rows of the instances so far are added
abbrev pub invariant-loop-number : goal.invariant-loop-number
invariant-loop-number l =
    (w v : World) (b : UnitBook) → unit_at v l.unit ≡ Some b → b.instances ≡ replicate l.count fresh → l.status ≡ status_of v b
    → AreAdded (is_instance_below l.unit l.number) w v l.initial.rows l.rows
