use Rattle.job_choice.proofs.Carried.{grants_carry_over}
use Rattle.job_choice.proofs.laws.a_grant_carries_over.Goals as goal

pub returns : goal.returns
returns c = grants_carry_over
