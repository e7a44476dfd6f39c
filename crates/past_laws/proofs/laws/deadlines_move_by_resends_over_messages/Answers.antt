use Rattle.past_laws.proofs.Calls.{deadlines_move_by_resends_over_messages}
use Rattle.past_laws.proofs.laws.deadlines_move_by_resends_over_messages.Goals as goal

pub returns : goal.returns
returns c = deadlines_move_by_resends_over_messages
