use Rattle.sched_book.proofs.PlaceChanges.{reports_change_instances_alone}
use Rattle.sched_book.proofs.laws.reports_change_instances_alone.Goals as goal

pub returns : goal.returns
returns c = reports_change_instances_alone
