use Rattle.sched_book.proofs.Settling.{settlement_is_pointwise}
use Rattle.sched_book.proofs.laws.settlement_is_pointwise.Goals as goal

pub returns : goal.returns
returns c = settlement_is_pointwise
