use Rattle.sched_book.proofs.LeastFront.{canonical_is_first_leader}
use Rattle.sched_book.proofs.laws.canonical_result_leads_the_least_front.Goals as goal

pub returns : goal.returns
returns c = canonical_is_first_leader
