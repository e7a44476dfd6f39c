use Rattle.table_worlds.proofs.OneWorld.{one_world}
use Rattle.table_worlds.proofs.laws.one_world.Goals as goal

pub returns : goal.returns
returns c = one_world
