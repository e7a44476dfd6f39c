use Rattle.std.proofs.Common.{◌≡◌, take, map}
use Rattle.sched_book.specs.Count.{verdict_by}
use Rattle.quorum_credit.proofs.outer_calls.verdicts_by.Given as goal

-- the verdicts so far
abbrev pub invariant-loop-instance : goal.invariant-loop-instance
invariant-loop-instance l = l.row.items ≡ map (verdict_by l.agreement l.instances l.canonical) (take l.instance-index l.instances)
