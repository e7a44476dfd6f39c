use Rattle.pasts.proofs.OneRun.{is_one_run}
use Rattle.pasts.proofs.laws.stands_by_one_run.Goals as goal

pub returns : goal.returns
returns c = is_one_run
