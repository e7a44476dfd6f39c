use Rattle.std.proofs.Common.{refl}
use Rattle.table_pasts.proofs.Upgraded.{stand_upgraded}
use Rattle.table_pasts.proofs.laws.upgraded_tables_stand.Goals as goal

pub returns : goal.returns
returns g c =
    stand_upgraded g.S.Store _ c.former_worlds_are_unclassed.ensures c.upgraded_stands.ensures c.upgraded_holds.ensures c.reopened_stands.ensures
    (λ t. record { world_is = refl; calls_are = λ host. refl; batches_are = λ kind batch. refl })
