use Rattle.sched_book.proofs.PlaceChanges.{grants_are_by_place}
use Rattle.sched_book.proofs.laws.grants_are_by_place.Goals as goal

pub returns : goal.returns
returns c = grants_are_by_place
