use Rattle.sched_tables.proofs.Reopened.{opened_are_taken}
use Rattle.sched_tables.proofs.laws.opened_are_taken.Goals as goal

pub returns : goal.returns
returns c = opened_are_taken
