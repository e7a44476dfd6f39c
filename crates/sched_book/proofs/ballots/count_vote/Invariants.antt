use Rattle.std.proofs.Common.{◌≡◌, ◌++◌, take, drop, map}
use Rattle.std.specs.Prelude.{count_by}
use Rattle.sched_book.specs.Ballots.{agrees_with, voted, most_votes}
use Rattle.sched_book.proofs.ballots.count_vote.Given as goal

-- the vote was counted in the first ballots
abbrev pub invariant-loop-ballot : goal.invariant-loop-ballot
invariant-loop-ballot l = record {
  ballots : l.ballots ≡ map (voted l.distance l.voter) (take l.ballot-index l.fn.ballots) ++ drop l.ballot-index l.fn.ballots;
  agreed : l.agreed ≡ count_by (agrees_with l.distance l.voter) (take l.ballot-index l.fn.ballots);
  most : l.most_votes ≡ most_votes (map (voted l.distance l.voter) (take l.ballot-index l.fn.ballots));
}
