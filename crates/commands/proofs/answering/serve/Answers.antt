use Rattle.std.proofs.Common.{[], rules, refl, inl, inr}
use Rattle.stores.specs.Acting.{parts_of}
use Rattle.sched_server.specs.Serving.{messages_of}
use Rattle.sched_server.proofs.Served.{none_served}
use Rattle.commands.proofs.answering.serve.Goals as goal

pub returns-in_err-listen : goal.returns-in_err-listen
returns-in_err-listen g c = ([], inl (search rules, refl), none_served (parts_of g.S.Units g.S.Store.holds g.S.Store.clean g.S.Store.lasting g.S.Store.may_leave g.S.Store.reopens) c.args.service.now)

pub returns-in_err-serve_connections : goal.returns-in_err-serve_connections
returns-in_err-serve_connections g c =
    let served = c.serve_connections.ensures.served in
    (messages_of served.0, inr (c.listen.new.self, c.in_ok-listen.ensures, served.0, refl, (served.1.0, search rules, served.1.2)), served.2)

pub returns : goal.returns
returns g c =
    let served = c.serve_connections.ensures.served in
    (messages_of served.0, inr (c.listen.new.self, c.in_ok-listen.ensures, served.0, refl, (served.1.0, rw c.in_ok-serve_connections.was at served.1.1, served.1.2)), served.2)
