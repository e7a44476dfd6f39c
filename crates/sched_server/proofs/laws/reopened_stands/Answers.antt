use Rattle.stores.specs.Acting.{parts_of}
use Rattle.sched_server.proofs.Stopped.{reopened_stands}
use Rattle.sched_server.proofs.laws.reopened_stands.Goals as goal

pub returns : goal.returns
returns g c = reopened_stands (parts_of g.S.Units g.S.Store.holds g.S.Store.clean g.S.Store.lasting g.S.Store.may_leave g.S.Store.reopens) g.met.S.Store.settled
