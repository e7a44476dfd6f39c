use Rattle.sched_machine.proofs.Decided.Runs.{credits_never_fall}
use Rattle.sched_machine.proofs.laws.credits_never_fall.Goals as goal

pub returns : goal.returns
returns c = credits_never_fall
