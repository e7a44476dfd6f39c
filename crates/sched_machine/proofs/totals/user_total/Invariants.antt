use Rattle.std.proofs.Common.{◌≡◌, ◌+◌, drop}
use Rattle.sched_book.specs.Places.{user_credit}
use Rattle.sched_machine.specs.Totals.{user_credits_in}
use Rattle.sched_machine.proofs.totals.user_total.Given as goal

-- the sum so far, and what the scores that are left bring
abbrev pub invariant-loop-score : goal.invariant-loop-score
invariant-loop-score g l = record {
  reads : g.S.Units.reads l.fn.working_set l.working_set;
  known : g.S.Units.honest l.working_set → g.S.Units.well_kept l.fn.working_set
      → l.credit + user_credits_in (g.S.Units.world l.fn.working_set).hosts l.account (drop l.score-index l.scores)
      ≡ user_credit (g.S.Draft.entry l.fn.working_set) l.account + user_credits_in (g.S.Units.world l.fn.working_set).hosts l.account l.scores;
}
