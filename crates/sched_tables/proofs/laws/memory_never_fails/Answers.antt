use Rattle.sched_tables.proofs.Memory.{memory_never_fails}
use Rattle.sched_tables.proofs.laws.memory_never_fails.Goals as goal

pub returns : goal.returns
returns c = memory_never_fails
