use Rattle.stores.specs.Acting.{parts_of}
use Rattle.sched_server.proofs.Stopped.{reads_stand}
use Rattle.sched_server.proofs.laws.reads_stand.Goals as goal

pub returns : goal.returns
returns g c =
    reads_stand (parts_of g.S.Units g.S.Store.holds g.S.Store.clean g.S.Store.lasting g.S.Store.may_leave g.S.Store.reopens)
    g.met.S.Units.stays_honest g.met.S.Units.stays_kept g.met.S.Store.stays_held g.met.S.Store.stays_left
