use Rattle.sched_machine.proofs.Runs.One.{a_step_is_determined}
use Rattle.sched_machine.proofs.laws.a_step_is_determined.Goals as goal

pub returns : goal.returns
returns c = a_step_is_determined
