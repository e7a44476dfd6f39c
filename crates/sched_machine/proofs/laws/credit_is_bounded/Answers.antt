use Rattle.sched_machine.proofs.Credit.Bounds.{credit_is_bounded}
use Rattle.sched_machine.proofs.laws.credit_is_bounded.Goals as goal

pub returns : goal.returns
returns c = credit_is_bounded
