use Rattle.std.proofs.Common.{inl, inr}
use Rattle.std.proofs.lemmas.Result.{on_ok_weaker}
use Rattle.stores.specs.Acting.{parts_of}
use Rattle.sched_server.proofs.Served.{message_served, message_unread}
use Rattle.sched_server.proofs.service.Service.serve.Goals as goal

pub returns-clause-ok : goal.returns-clause-ok
returns-clause-ok g c = on_ok_weaker c.serve_one.result
    (λ done. record {
      bytes = done.0;
      text = done.1;
      read = done.2.0;
      written = done.4;
      serves = elim done.3 [
        | inl whole ↦
            let handled = whole.1 in
            message_served (parts_of g.S.Units g.S.Store.holds g.S.Store.clean g.S.Store.lasting g.S.Store.may_leave g.S.Store.reopens) g.met.S.Store.settled _ _ _ done.0 done.1
            (record { answer = handled.0; text_is = handled.1; acts = handled.2; key = handled.3; reopens = handled.4; exact = handled.5 })
        | inr unread ↦
            message_unread (parts_of g.S.Units g.S.Store.holds g.S.Store.clean g.S.Store.lasting g.S.Store.may_leave g.S.Store.reopens) g.met.S.Store.settled _ _ _ done.0 done.1 unread.0 unread.1
      ];
    })
    c.serve_one.ensures.ok

pub returns-clause-write_fault : goal.returns-clause-write_fault
returns-clause-write_fault g c = λ failed.
    let done = (c.serve_one.ensures.write_fault failed).1 in record {
      bytes = done.0;
      text = done.1;
      read = done.2.0;
      written = done.4;
      serves = elim done.3 [
        | inl whole ↦
            let handled = whole.1 in
            message_served (parts_of g.S.Units g.S.Store.holds g.S.Store.clean g.S.Store.lasting g.S.Store.may_leave g.S.Store.reopens) g.met.S.Store.settled _ _ _ done.0 done.1
            (record { answer = handled.0; text_is = handled.1; acts = handled.2; key = handled.3; reopens = handled.4; exact = handled.5 })
        | inr unread ↦
            message_unread (parts_of g.S.Units g.S.Store.holds g.S.Store.clean g.S.Store.lasting g.S.Store.may_leave g.S.Store.reopens) g.met.S.Store.settled _ _ _ done.0 done.1 unread.0 unread.1
      ];
    }
