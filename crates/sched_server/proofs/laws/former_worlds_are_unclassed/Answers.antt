use Rattle.sched_server.proofs.Former.{former_worlds_are_unclassed}
use Rattle.sched_server.proofs.laws.former_worlds_are_unclassed.Goals as goal

pub returns : goal.returns
returns c = former_worlds_are_unclassed
