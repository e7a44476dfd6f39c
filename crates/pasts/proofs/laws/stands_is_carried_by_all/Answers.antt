use Rattle.pasts.proofs.OneRun.{stands_is_carried_by_all}
use Rattle.pasts.proofs.laws.stands_is_carried_by_all.Goals as goal

pub returns : goal.returns
returns c = stands_is_carried_by_all
