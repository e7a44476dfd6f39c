use Rattle.sched_machine.proofs.Runs.One.{a_run_is_determined}
use Rattle.sched_machine.proofs.laws.a_run_is_determined.Goals as goal

pub returns : goal.returns
returns c = a_run_is_determined
