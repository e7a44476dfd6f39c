use Rattle.sched_machine.proofs.Moves.Sound.{step_keeps_sound}
use Rattle.sched_machine.proofs.laws.step_keeps_sound.Goals as goal

pub returns : goal.returns
returns c = step_keeps_sound
