use Rattle.lost_jobs.proofs.Requested.{lost_jobs_are_of_the_request}
use Rattle.lost_jobs.proofs.laws.lost_jobs_are_of_the_request.Goals as goal

pub returns : goal.returns
returns c = lost_jobs_are_of_the_request
