use Rattle.lost_jobs.proofs.Reported.{reports_hold_no_more}
use Rattle.lost_jobs.proofs.laws.reports_hold_no_more.Goals as goal

pub returns : goal.returns
returns c = reports_hold_no_more
