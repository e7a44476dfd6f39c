use Rattle.sched_machine.proofs.Held.Jobs.{held_jobs_by_place}
use Rattle.sched_machine.proofs.laws.held_jobs_by_place.Goals as goal

pub returns : goal.returns
returns c = held_jobs_by_place
