use Rattle.sched_book.proofs.LostPlaces.{lost_are_held_and_unlisted}
use Rattle.sched_book.proofs.laws.lost_jobs_are_held_and_unlisted.Goals as goal

pub returns : goal.returns
returns c = lost_are_held_and_unlisted
