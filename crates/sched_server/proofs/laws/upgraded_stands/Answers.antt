use Rattle.sched_server.proofs.Begun.{upgraded_stands}
use Rattle.sched_server.proofs.laws.upgraded_stands.Goals as goal

pub returns : goal.returns
returns c = upgraded_stands
