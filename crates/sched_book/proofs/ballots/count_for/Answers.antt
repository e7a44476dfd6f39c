use Rattle.sched_book.proofs.Voting.{none_voted, none_counted}
use Rattle.sched_book.proofs.ballots.count_for.Goals as goal

pub returns-then-is_new-clause-ballots : goal.returns-then-is_new-clause-ballots
returns-then-is_new-clause-ballots c = none_voted c.args.distance c.args.voter.now c.args.ballots.now (c.requires.new c.if-is_new.true)

pub returns-then-is_new-clause-agreed : goal.returns-then-is_new-clause-agreed
returns-then-is_new-clause-agreed c = none_counted c.args.distance c.args.voter.now c.args.ballots.now (c.requires.new c.if-is_new.true)
