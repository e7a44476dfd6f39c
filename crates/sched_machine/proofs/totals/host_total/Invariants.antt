use Rattle.std.proofs.Common.{◌≡◌, ◌+◌, drop}
use Rattle.sched_book.specs.Places.{host_credit}
use Rattle.quorum_credit.specs.Scores.{credits_in}
use Rattle.sched_machine.proofs.totals.host_total.Given as goal

-- the sum so far, and what the scores that are left bring
abbrev pub invariant-loop-score : goal.invariant-loop-score
invariant-loop-score g l = record {
  reads : g.S.Units.reads l.fn.working_set l.working_set;
  known : g.S.Units.honest l.working_set → g.S.Units.well_kept l.fn.working_set
      → l.credit + credits_in (drop l.score-index l.scores) l.host
      ≡ host_credit (g.S.Draft.entry l.fn.working_set) l.host + credits_in l.scores l.host;
}
