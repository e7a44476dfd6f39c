use Rattle.sched_book.proofs.Voting.{none_leads}
use Rattle.sched_book.proofs.ballots.Tally.leader.Goals as goal

pub returns-then-self-enough : goal.returns-then-self-enough
returns-then-self-enough c = none_leads c.args.self.now.most_votes c.args.enough c.args.self.now.ballots.items c.requires c.if-self-enough.true
