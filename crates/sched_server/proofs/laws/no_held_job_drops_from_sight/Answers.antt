use Rattle.sched_server.proofs.Lasting.{no_held_job_drops_from_sight}
use Rattle.sched_server.proofs.laws.no_held_job_drops_from_sight.Goals as goal

pub returns : goal.returns
returns c = no_held_job_drops_from_sight
