use Rattle.sched_machine.proofs.Runs.Users.{one_for_each_user}
use Rattle.sched_machine.proofs.laws.one_for_each_user.Goals as goal

pub returns : goal.returns
returns c = one_for_each_user
