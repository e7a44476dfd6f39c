use Rattle.pasts.proofs.UpgradePoints.{new_tables_have_one_era}
use Rattle.pasts.proofs.laws.new_tables_have_one_era.Goals as goal

pub returns : goal.returns
returns c = new_tables_have_one_era
