use Rattle.job_choice.proofs.Only.{one_grant}
use Rattle.job_choice.proofs.laws.there_is_one_grant.Goals as goal

pub returns : goal.returns
returns c = one_grant
