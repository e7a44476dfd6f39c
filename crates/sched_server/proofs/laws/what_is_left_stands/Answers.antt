use Rattle.stores.specs.Acting.{parts_of}
use Rattle.sched_server.proofs.Stopped.{what_is_left_stands}
use Rattle.sched_server.proofs.laws.what_is_left_stands.Goals as goal

pub returns : goal.returns
returns g c = what_is_left_stands (parts_of g.S.Units g.S.Store.holds g.S.Store.clean g.S.Store.lasting g.S.Store.may_leave g.S.Store.reopens) g.met.S.Store.settled
