use Rattle.sched_machine.proofs.Held.Results.{replies_name_each_job}
use Rattle.sched_machine.proofs.laws.replies_name_each_job.Goals as goal

pub returns : goal.returns
returns c = replies_name_each_job
