use Rattle.pasts.proofs.UpgradePoints.{new_pasts_are_in_era}
use Rattle.pasts.proofs.laws.new_pasts_are_in_era.Goals as goal

pub returns : goal.returns
returns c = new_pasts_are_in_era
