use Rattle.sched_machine.proofs.Units.Settled.{settlement_settles}
use Rattle.sched_machine.proofs.laws.settlement_settles.Goals as goal

pub returns : goal.returns
returns c = settlement_settles
