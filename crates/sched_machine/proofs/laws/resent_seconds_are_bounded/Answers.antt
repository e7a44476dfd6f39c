use Rattle.sched_machine.proofs.Credit.Resent.{resent_seconds_are_bounded}
use Rattle.sched_machine.proofs.laws.resent_seconds_are_bounded.Goals as goal

pub returns : goal.returns
returns c = resent_seconds_are_bounded
