use Rattle.past_laws.proofs.Sounds.{what_stands_is_sound}
use Rattle.past_laws.proofs.laws.what_stands_is_sound.Goals as goal

pub returns : goal.returns
returns c = what_stands_is_sound
