use Rattle.std.proofs.Common.{◌≡◌, ◌≤◌}
use Rattle.sched_book.specs.Ballots.{IsTallyOf}
use Rattle.sched_book.proofs.Reports.{leader_from}
use Rattle.sched_book.proofs.ballots.first_leader_among.Given as goal

-- the first reports have joined, and no front so far has a leader
abbrev pub invariant-loop-front : goal.invariant-loop-front
invariant-loop-front l = record {
  tally : IsTallyOf l.agreement l.instances l.reports l.front l.tally;
  none : l.quorum ≤ l.front → leader_from l.agreement l.instances l.enough l.reports l.quorum ≡ leader_from l.agreement l.instances l.enough l.reports l.front;
}
