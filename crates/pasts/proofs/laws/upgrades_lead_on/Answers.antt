use Rattle.pasts.proofs.UpgradePoints.{upgrades_lead_on}
use Rattle.pasts.proofs.laws.upgrades_lead_on.Goals as goal

pub returns : goal.returns
returns c = upgrades_lead_on
