use Rattle.pasts.proofs.Carried.{new_tables_stand}
use Rattle.pasts.proofs.laws.new_tables_stand.Goals as goal

pub returns : goal.returns
returns c = new_tables_stand
