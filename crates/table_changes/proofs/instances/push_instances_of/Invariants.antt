use Rattle.std.proofs.Common.{◌≡◌}
use Rattle.sched_book.specs.declared.world.World.{World}
use Rattle.call_working_set.specs.WorkingSets.{IsUnitStateOf}
use Rattle.table_changes.specs.Added.{AreAdded}
use Rattle.table_changes.proofs.InTurn.{is_instance_below}
use Rattle.table_changes.proofs.instances.push_instances_of.Given as goal

-- the rows of the instances so far are added
abbrev pub invariant-loop-number : goal.invariant-loop-number
invariant-loop-number l =
    (w v : World) → v.apps ≡ w.apps → IsUnitStateOf w v l.unit l.read → AreAdded (is_instance_below l.unit l.number) w v l.initial.rows l.rows
