use Rattle.pasts.proofs.OneRun.{serves_by_one_run}
use Rattle.pasts.proofs.laws.serves_by_one_run.Goals as goal

pub returns : goal.returns
returns c = serves_by_one_run
