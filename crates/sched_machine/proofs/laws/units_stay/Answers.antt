use Rattle.sched_machine.proofs.Decided.Runs.{units_stay}
use Rattle.sched_machine.proofs.laws.units_stay.Goals as goal

pub returns : goal.returns
returns c = units_stay
