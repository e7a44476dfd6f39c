use Rattle.sched_machine.proofs.Moves.Sound.{runs_keep_sound}
use Rattle.sched_machine.proofs.laws.runs_keep_sound.Goals as goal

pub returns : goal.returns
returns c = runs_keep_sound
