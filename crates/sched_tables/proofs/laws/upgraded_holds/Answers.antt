use Rattle.sched_tables.proofs.Upgraded.{upgraded_hold}
use Rattle.sched_tables.proofs.laws.upgraded_holds.Goals as goal

pub returns : goal.returns
returns g c = λ old t upgrades. upgraded_hold old _ upgrades
