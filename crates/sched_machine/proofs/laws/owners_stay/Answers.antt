use Rattle.sched_machine.proofs.Runs.Lasting.{owners_stay}
use Rattle.sched_machine.proofs.laws.owners_stay.Goals as goal

pub returns : goal.returns
returns c = owners_stay
