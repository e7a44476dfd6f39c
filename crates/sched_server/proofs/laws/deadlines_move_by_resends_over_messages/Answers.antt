use Rattle.sched_server.proofs.Lasting.{deadlines_move_by_resends_over_messages}
use Rattle.sched_server.proofs.laws.deadlines_move_by_resends_over_messages.Goals as goal

pub returns : goal.returns
returns c = deadlines_move_by_resends_over_messages
