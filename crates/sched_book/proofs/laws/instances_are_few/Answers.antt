use Rattle.sched_book.proofs.Bounded.{instances_are_few}
use Rattle.sched_book.proofs.laws.instances_are_few.Goals as goal

pub returns : goal.returns
returns c = instances_are_few
