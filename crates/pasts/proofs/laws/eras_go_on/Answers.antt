use Rattle.pasts.proofs.UpgradePoints.{eras_go_on}
use Rattle.pasts.proofs.laws.eras_go_on.Goals as goal

pub returns : goal.returns
returns c = eras_go_on
