use Rattle.sched_server.proofs.FirstCalls.{first_calls_are_steps}
use Rattle.sched_server.proofs.laws.first_calls_are_steps.Goals as goal

pub returns : goal.returns
returns c = first_calls_are_steps
