use Rattle.std.proofs.Common.{take}
use Rattle.sched_book.specs.Delta.{edited}
use Rattle.sched_book.specs.declared.world.World.{World}
use Rattle.call_working_set.specs.WorkingSets.{IsCallStateOf}
use Rattle.table_changes.specs.Added.{is_instance_among, AreAdded}
use Rattle.table_changes.proofs.instances.push_instances.Given as goal

-- the rows of the instances of the workunits so far are added
abbrev pub invariant-loop-unit : goal.invariant-loop-unit
invariant-loop-unit l =
    (w : World) → IsCallStateOf w l.call_state → AreAdded (is_instance_among (take l.unit-index l.units)) w (edited w l.call_state.edits) l.initial.rows l.rows
