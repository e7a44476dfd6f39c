use Rattle.sched_book.proofs.FirstKnown.{first_known_is_first}
use Rattle.sched_book.proofs.laws.first_known_is_first.Goals as goal

pub returns : goal.returns
returns c = first_known_is_first
