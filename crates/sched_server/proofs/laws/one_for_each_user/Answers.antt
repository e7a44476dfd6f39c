use Rattle.past_laws.proofs.Holds as past
use Rattle.sched_machine.specs.Runs.{OneForEachUser}
use Rattle.sched_server.proofs.Lasting.{of_what_stands}
use Rattle.sched_server.proofs.laws.one_for_each_user.Goals as goal

pub returns : goal.returns
returns c = of_what_stands OneForEachUser past.one_for_each_user
