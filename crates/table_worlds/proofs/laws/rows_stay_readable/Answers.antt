use Rattle.table_worlds.proofs.StaysReadable.{rows_stay_readable}
use Rattle.table_worlds.proofs.laws.rows_stay_readable.Goals as goal

pub returns : goal.returns
returns c = rows_stay_readable
