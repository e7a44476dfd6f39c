use Rattle.std.proofs.Common.{◌≡◌, ℕ, drop}
use Rattle.sched_book.specs.Count.{verdict_by, is_valid}
use Rattle.table_worlds.specs.Totals.{with_instances}
use Rattle.table_changes.specs.Tallies.{tally}
use Rattle.table_changes.proofs.tallies.count_instances.Given as goal

-- the instances so far, and those that are left
abbrev pub invariant-loop-instance : goal.invariant-loop-instance
invariant-loop-instance l =
    (host : ℕ) → with_instances (λ x. is_valid (verdict_by l.agreement l.instances l.canonical x)) l.unit.credit (drop l.instance-index l.instances) host (tally l.totals host)
    ≡ with_instances (λ x. is_valid (verdict_by l.agreement l.instances l.canonical x)) l.unit.credit l.instances host (tally l.initial.totals host)
