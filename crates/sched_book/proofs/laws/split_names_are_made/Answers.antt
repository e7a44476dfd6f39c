use Rattle.sched_book.proofs.MadeNames.{split_names_are_made}
use Rattle.sched_book.proofs.laws.split_names_are_made.Goals as goal

pub returns : goal.returns
returns c = split_names_are_made
