use Rattle.sched_book.proofs.Recording.{reports_are_recorded_by_place}
use Rattle.sched_book.proofs.laws.reports_are_recorded_by_place.Goals as goal

pub returns : goal.returns
returns c = reports_are_recorded_by_place
