use Rattle.table_pasts.proofs.Stopped.{new_databases_stand}
use Rattle.table_pasts.proofs.laws.new_databases_stand.Goals as goal

pub returns : goal.returns
returns c = new_databases_stand
