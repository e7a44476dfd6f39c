use Rattle.sched_machine.proofs.Alike.Settled.{the_settled_world_is_like_the_first}
use Rattle.sched_machine.proofs.laws.the_settled_world_is_like_the_first.Goals as goal

pub returns : goal.returns
returns c = the_settled_world_is_like_the_first
