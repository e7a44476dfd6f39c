use Rattle.sched_tables.proofs.UpgradedTexts.{upgraded_can_be_opened}
use Rattle.sched_tables.proofs.laws.upgraded_can_be_opened.Goals as goal

pub returns : goal.returns
returns c = upgraded_can_be_opened
