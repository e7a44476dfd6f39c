use Rattle.sched_book.proofs.MadeNames.{made_names_are_split}
use Rattle.sched_book.proofs.laws.made_names_are_split.Goals as goal

pub returns : goal.returns
returns c = made_names_are_split
