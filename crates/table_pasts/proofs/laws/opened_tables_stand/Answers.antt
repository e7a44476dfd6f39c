use Rattle.std.proofs.Common.{refl}
use Rattle.table_pasts.proofs.Stopped.{opened_stand}
use Rattle.table_pasts.proofs.laws.opened_tables_stand.Goals as goal

pub returns : goal.returns
returns g c =
    opened_stand g.S.Store _ c.reopened_stands.ensures (λ t honest. honest.0) (λ t h may. may.clean) (λ t honest. honest) (λ t kept. kept)
    (λ t. record { world_is = refl; calls_are = λ host. refl; batches_are = λ kind batch. refl })
