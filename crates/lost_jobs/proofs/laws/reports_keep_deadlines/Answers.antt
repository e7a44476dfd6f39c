use Rattle.lost_jobs.proofs.Reported.{reports_keep_deadlines}
use Rattle.lost_jobs.proofs.laws.reports_keep_deadlines.Goals as goal

pub returns : goal.returns
returns c = reports_keep_deadlines
