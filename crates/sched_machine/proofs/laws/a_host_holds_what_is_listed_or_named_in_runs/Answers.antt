use Rattle.sched_machine.proofs.Runs.Stretches.{a_host_holds_what_is_listed_or_named_in_runs}
use Rattle.sched_machine.proofs.laws.a_host_holds_what_is_listed_or_named_in_runs.Goals as goal

pub returns : goal.returns
returns c = a_host_holds_what_is_listed_or_named_in_runs
