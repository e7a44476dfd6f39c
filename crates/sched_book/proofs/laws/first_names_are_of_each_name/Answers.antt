use Rattle.sched_book.proofs.EachName.{first_names_are_of_each_name}
use Rattle.sched_book.proofs.laws.first_names_are_of_each_name.Goals as goal

pub returns : goal.returns
returns c = first_names_are_of_each_name
