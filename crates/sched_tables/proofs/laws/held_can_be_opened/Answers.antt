use Rattle.sched_tables.proofs.Reopened.{held_can_be_opened}
use Rattle.sched_tables.proofs.laws.held_can_be_opened.Goals as goal

pub returns : goal.returns
returns c = held_can_be_opened
