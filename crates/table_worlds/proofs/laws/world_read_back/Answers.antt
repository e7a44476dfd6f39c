use Rattle.table_worlds.proofs.WorldReadBack.{held_is_read_back}
use Rattle.table_worlds.proofs.laws.world_read_back.Goals as goal

pub returns : goal.returns
returns c = held_is_read_back
