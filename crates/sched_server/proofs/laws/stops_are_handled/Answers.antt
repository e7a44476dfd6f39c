use Rattle.stores.specs.Acting.{parts_of}
use Rattle.sched_server.proofs.Stopped.{stops_are_handled}
use Rattle.sched_server.proofs.laws.stops_are_handled.Goals as goal

pub returns : goal.returns
returns g c = stops_are_handled (parts_of g.S.Units g.S.Store.holds g.S.Store.clean g.S.Store.lasting g.S.Store.may_leave g.S.Store.reopens) g.met.S.Store.settled
