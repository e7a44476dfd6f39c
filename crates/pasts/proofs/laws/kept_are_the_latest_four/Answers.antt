use Rattle.pasts.proofs.UpgradePoints.{kept_are_the_latest_four}
use Rattle.pasts.proofs.laws.kept_are_the_latest_four.Goals as goal

pub returns : goal.returns
returns c = kept_are_the_latest_four
