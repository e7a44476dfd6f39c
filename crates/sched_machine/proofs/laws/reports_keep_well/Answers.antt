use Rattle.sched_machine.proofs.Units.Reported.{reports_keep_well}
use Rattle.sched_machine.proofs.laws.reports_keep_well.Goals as goal

pub returns : goal.returns
returns c = reports_keep_well
