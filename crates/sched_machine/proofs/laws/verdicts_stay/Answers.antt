use Rattle.sched_machine.proofs.Decided.Runs.{verdicts_stay}
use Rattle.sched_machine.proofs.laws.verdicts_stay.Goals as goal

pub returns : goal.returns
returns c = verdicts_stay
