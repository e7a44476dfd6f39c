use Rattle.sched_server.proofs.Determined.{stores_are_determined}
use Rattle.sched_server.proofs.laws.stores_are_determined.Goals as goal

pub returns : goal.returns
returns c = stores_are_determined c.a_message_has_one_meaning.ensures
