use Rattle.sched_machine.proofs.Units.Lapsed.{lapses_keep_well}
use Rattle.sched_machine.proofs.laws.lapses_keep_well.Goals as goal

pub returns : goal.returns
returns c = lapses_keep_well
