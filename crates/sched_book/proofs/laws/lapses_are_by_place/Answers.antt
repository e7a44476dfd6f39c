use Rattle.sched_book.proofs.PlaceChanges.{lapses_are_by_place}
use Rattle.sched_book.proofs.laws.lapses_are_by_place.Goals as goal

pub returns : goal.returns
returns c = lapses_are_by_place
