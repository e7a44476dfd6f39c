use Rattle.sched_book.proofs.PlaceChanges.{lost_jobs_are_by_place}
use Rattle.sched_book.proofs.laws.lost_jobs_are_by_place.Goals as goal

pub returns : goal.returns
returns c = lost_jobs_are_by_place
