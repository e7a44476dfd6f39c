use Rattle.table_worlds.proofs.StaysReadable.{sound_is_readable}
use Rattle.table_worlds.proofs.laws.sound_is_readable.Goals as goal

pub returns : goal.returns
returns c = sound_is_readable
