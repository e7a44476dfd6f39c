use Rattle.sched_book.proofs.Fitting.{fitting_keeps_bounds}
use Rattle.sched_book.proofs.laws.fitting_changes_keep_bounds.Goals as goal

pub returns : goal.returns
returns c = fitting_keeps_bounds
