use Rattle.past_laws.proofs.Calls.{no_held_job_drops_from_sight}
use Rattle.past_laws.proofs.laws.no_held_job_drops_from_sight.Goals as goal

pub returns : goal.returns
returns c = no_held_job_drops_from_sight
