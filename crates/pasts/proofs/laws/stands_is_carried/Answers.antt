use Rattle.pasts.proofs.Carried.{stands_is_carried}
use Rattle.pasts.proofs.laws.stands_is_carried.Goals as goal

pub returns : goal.returns
returns c = stands_is_carried
