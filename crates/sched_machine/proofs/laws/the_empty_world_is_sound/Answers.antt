use Rattle.sched_machine.proofs.Moves.Sound.{the_empty_world_is_sound}
use Rattle.sched_machine.proofs.laws.the_empty_world_is_sound.Goals as goal

pub returns : goal.returns
returns c = the_empty_world_is_sound
