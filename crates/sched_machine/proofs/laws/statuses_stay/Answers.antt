use Rattle.sched_machine.proofs.Decided.Runs.{statuses_stay}
use Rattle.sched_machine.proofs.laws.statuses_stay.Goals as goal

pub returns : goal.returns
returns c = statuses_stay
