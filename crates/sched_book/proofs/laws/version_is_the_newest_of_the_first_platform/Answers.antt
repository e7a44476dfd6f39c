use Rattle.sched_book.proofs.Newest.{version_is_newest_of_first}
use Rattle.sched_book.proofs.laws.version_is_the_newest_of_the_first_platform.Goals as goal

pub returns : goal.returns
returns c = version_is_newest_of_first
