use Rattle.sched_book.proofs.UnsentPlaces.{offers_are_the_unsent}
use Rattle.sched_book.proofs.laws.offers_are_the_unsent.Goals as goal

pub returns : goal.returns
returns c = offers_are_the_unsent
