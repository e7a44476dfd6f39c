use Rattle.sched_book.proofs.PlacesWhere.{places_are_those_that_pass}
use Rattle.sched_book.proofs.laws.places_are_those_that_pass.Goals as goal

pub returns : goal.returns
returns c = places_are_those_that_pass
