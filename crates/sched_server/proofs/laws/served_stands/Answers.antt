use Rattle.stores.specs.Acting.{parts_of}
use Rattle.sched_server.proofs.Served.{served_stands}
use Rattle.sched_server.proofs.laws.served_stands.Goals as goal

pub returns : goal.returns
returns g c = served_stands (parts_of g.S.Units g.S.Store.holds g.S.Store.clean g.S.Store.lasting g.S.Store.may_leave g.S.Store.reopens) g.met.S.Store.settled _ _
    (λ old now bytes text new handled. record { answer = handled.0; text_is = handled.1; acts = handled.2; key = handled.3; reopens = handled.4; exact = handled.5 })
