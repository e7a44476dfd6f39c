use Rattle.pasts.proofs.UpgradePoints.{kept_since_the_first_upgrade}
use Rattle.pasts.proofs.laws.kept_since_the_first_upgrade.Goals as goal

pub returns : goal.returns
returns c = kept_since_the_first_upgrade
