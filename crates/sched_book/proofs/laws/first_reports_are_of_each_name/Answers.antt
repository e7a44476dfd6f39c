use Rattle.sched_book.proofs.EachName.{first_reports_are_of_each_name}
use Rattle.sched_book.proofs.laws.first_reports_are_of_each_name.Goals as goal

pub returns : goal.returns
returns c = first_reports_are_of_each_name
