use Rattle.sched_machine.proofs.Runs.Lasting.{lapses_stay}
use Rattle.sched_machine.proofs.laws.lapses_stay.Goals as goal

pub returns : goal.returns
returns c = lapses_stay
