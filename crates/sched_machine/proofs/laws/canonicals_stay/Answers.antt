use Rattle.sched_machine.proofs.Decided.Runs.{canonicals_stay}
use Rattle.sched_machine.proofs.laws.canonicals_stay.Goals as goal

pub returns : goal.returns
returns c = canonicals_stay
