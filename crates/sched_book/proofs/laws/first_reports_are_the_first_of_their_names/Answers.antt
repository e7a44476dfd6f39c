use Rattle.sched_book.proofs.FirstOfEach.{first_reports_are_first}
use Rattle.sched_book.proofs.laws.first_reports_are_the_first_of_their_names.Goals as goal

pub returns : goal.returns
returns c = first_reports_are_first
