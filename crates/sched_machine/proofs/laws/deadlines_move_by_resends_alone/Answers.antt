use Rattle.sched_machine.proofs.Runs.Deadlines.{deadlines_move_by_resends_alone}
use Rattle.sched_machine.proofs.laws.deadlines_move_by_resends_alone.Goals as goal

pub returns : goal.returns
returns c = deadlines_move_by_resends_alone
