use Rattle.std.proofs.Common.{◌+◌, ◌<◌, length, get_or, set, arith, ap, ◌∙◌}
use Rattle.std.proofs.lemmas.List.Edits.{map_over_more}
use Rattle.std.proofs.lemmas.List.{get_or_default}
use Rattle.sched_book.specs.Ballots.{voted}
use Rattle.sched_book.proofs.Voting.{unset, one_more_agrees, most_so_far}
use Rattle.sched_book.proofs.ballots.count_vote.Goals as goal

pub loop-ballot-preserved : goal.loop-ballot-preserved
loop-ballot-preserved c =
    let ballots = c.args.ballots.now in
    let now = c.loop-ballot.ballots in
    let i = c.loop-ballot.ballot-index in
    let before = get_or now i unset in
    let within : i < length now = omega arith in
    let at = get_or_default now i unset before within in
    record {
      ballots =
          ap (λ b. set now i b) c.add_vote.ensures.ballot
          ∙ map_over_more (voted c.args.distance c.args.voter.now) ballots now i before c.loop-ballot-test.true c.loop-ballot.invariant.ballots at;
      agreed = ap (λ n. c.loop-ballot.agreed + n) c.from-agreed.ensures
          ∙ one_more_agrees c.args.distance c.args.voter.now ballots now i c.loop-ballot-test.true c.loop-ballot.invariant.ballots before at
          c.loop-ballot.agreed c.add_vote.result c.loop-ballot.invariant.agreed c.add_vote.ensures.agreed;
      most = c.max-most_votes.ensures
          ∙ most_so_far c.args.distance c.args.voter.now ballots now i c.loop-ballot-test.true c.loop-ballot.invariant.ballots before at
          c.loop-ballot.most_votes c.add_vote.new.ballot c.loop-ballot.invariant.most c.add_vote.ensures.ballot;
    }
