use Rattle.stores.specs.Acting.{parts_of}
use Rattle.sched_server.proofs.Begun.{new_stores_stand}
use Rattle.sched_server.proofs.laws.new_stores_stand.Goals as goal

pub returns : goal.returns
returns g c = new_stores_stand (parts_of g.S.Units g.S.Store.holds g.S.Store.clean g.S.Store.lasting g.S.Store.may_leave g.S.Store.reopens) g.met.S.Store.settled
