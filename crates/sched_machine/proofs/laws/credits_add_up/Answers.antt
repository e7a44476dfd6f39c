use Rattle.sched_machine.proofs.Decided.Runs.{credits_add_up}
use Rattle.sched_machine.proofs.laws.credits_add_up.Goals as goal

pub returns : goal.returns
returns c = credits_add_up
