use Rattle.sched_machine.proofs.Runs.Stretches.{deadlines_move_by_resends_in_runs}
use Rattle.sched_machine.proofs.laws.deadlines_move_by_resends_in_runs.Goals as goal

pub returns : goal.returns
returns c = deadlines_move_by_resends_in_runs
