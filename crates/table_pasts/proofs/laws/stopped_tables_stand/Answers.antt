use Rattle.table_pasts.proofs.Stopped.{stopped_stand}
use Rattle.table_pasts.proofs.laws.stopped_tables_stand.Goals as goal

pub returns : goal.returns
returns g c = stopped_stand g.S.Store _ (λ t h may. may)
