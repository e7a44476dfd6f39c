use Rattle.sched_machine.proofs.Rows.Entry.{entry_keeps_sound}
use Rattle.sched_machine.proofs.laws.entry_keeps_sound.Goals as goal

pub returns : goal.returns
returns c = entry_keeps_sound
