use Rattle.sched_machine.proofs.Runs.Lasting.{reports_stay}
use Rattle.sched_machine.proofs.laws.reports_stay.Goals as goal

pub returns : goal.returns
returns c = reports_stay
