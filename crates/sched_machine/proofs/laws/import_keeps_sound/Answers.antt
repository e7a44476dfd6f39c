use Rattle.sched_machine.proofs.Rows.Import.{import_keeps_sound}
use Rattle.sched_machine.proofs.laws.import_keeps_sound.Goals as goal

pub returns : goal.returns
returns c = import_keeps_sound
