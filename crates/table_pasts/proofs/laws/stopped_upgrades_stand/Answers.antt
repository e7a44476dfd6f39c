use Rattle.table_pasts.proofs.Upgraded.{stopped_upgrades_stand}
use Rattle.table_pasts.proofs.laws.stopped_upgrades_stand.Goals as goal

pub returns : goal.returns
returns c = stopped_upgrades_stand c.former_worlds_are_unclassed.ensures c.upgraded_stands.ensures
