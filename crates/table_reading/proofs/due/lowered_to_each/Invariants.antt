use Rattle.std.proofs.Common.{◌≡◌, drop}
use Rattle.table_reading.specs.Deadlines.{lowered_to_each}
use Rattle.table_reading.proofs.due.lowered_to_each.Given as goal

-- those that are left lower it as far as all do
abbrev pub invariant-loop-instance : goal.invariant-loop-instance
invariant-loop-instance l = lowered_to_each l.lower (drop l.instance-index l.instances) ≡ lowered_to_each l.due_from l.instances
