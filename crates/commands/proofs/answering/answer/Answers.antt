use Rattle.std.proofs.Common.{refl, []}
use Rattle.stores.specs.Acting.{parts_of}
use Rattle.sched_server.proofs.Served.{one_served, none_served, served_then}
use Rattle.commands.proofs.answering.answer.Goals as goal

pub returns : goal.returns
returns g c =
    let handled = c.handle-answer.ensures in
    let store = parts_of g.S.Units g.S.Store.holds g.S.Store.clean g.S.Store.lasting g.S.Store.may_leave g.S.Store.reopens in
    let one = one_served store g.met.S.Store.settled c.args.service.now c.handle-answer.new.self c.args.now c.args.message.now _
    (record { answer = c.handle-answer.result; text_is = refl; acts = handled.acts; key = handled.key; reopens = handled.reopens; exact = handled.exact }) in (
      record { arrival = record { now = c.args.now; bytes = c.args.message.now }; answer = c.handle-answer.result },
      record { now_is = refl; bytes_are = refl; ends = c.outcome_of.ensures },
      served_then store [] _ c.args.service.now c.args.service.now c.handle-answer.new.self (none_served store c.args.service.now) one,
    )
