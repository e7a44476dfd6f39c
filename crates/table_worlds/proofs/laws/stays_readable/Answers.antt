use Rattle.table_worlds.proofs.StaysReadable.{stays_readable}
use Rattle.table_worlds.proofs.laws.stays_readable.Goals as goal

pub returns : goal.returns
returns c = stays_readable
