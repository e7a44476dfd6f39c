use Rattle.sched_machine.proofs.Units.Lost.{lost_jobs_keep_well}
use Rattle.sched_machine.proofs.laws.lost_jobs_keep_well.Goals as goal

pub returns : goal.returns
returns c = lost_jobs_keep_well
