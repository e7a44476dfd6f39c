use Rattle.sched_book.proofs.GoodReports.{good_are_judged_successes}
use Rattle.sched_book.proofs.laws.good_reports_are_the_judged_successes.Goals as goal

pub returns : goal.returns
returns c = good_are_judged_successes
