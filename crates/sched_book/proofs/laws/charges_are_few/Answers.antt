use Rattle.sched_book.proofs.Bounded.{charges_are_few}
use Rattle.sched_book.proofs.laws.charges_are_few.Goals as goal

pub returns : goal.returns
returns c = charges_are_few
