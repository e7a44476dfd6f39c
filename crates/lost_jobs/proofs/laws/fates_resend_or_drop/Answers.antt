use Rattle.lost_jobs.proofs.Resending.{fates_resend_or_drop}
use Rattle.lost_jobs.proofs.laws.fates_resend_or_drop.Goals as goal

pub returns : goal.returns
returns c = fates_resend_or_drop
