use Rattle.std.proofs.Common.{Err, ap, sym, subst, true≢false}
use Rattle.std.specs.Prelude.{false, is_ok, IfOk}
use Rattle.rpc_records.specs.declared.fault.Fault.TheVariants as fault
use Rattle.stores.specs.Acting.{parts_of}
use Rattle.stores.proofs.Results.{given, only}
use Rattle.stores.proofs.ReadsAct.{acts_on, reads_act, said_on}
use Rattle.pasts.specs.declared.answer.AnswerContent.TheVariants.{Refusal}
use Rattle.message_engine.specs.Calls.{IsNamedCaller, IsCallServed, ServesCall}
use Rattle.message_engine.proofs.CallsServed.{account_serves, number_serves}
use Rattle.message_engine.proofs.calls.call.Goals as goal

pub returns-in-Ok-clause-acts : goal.returns-in-Ok-clause-acts
returns-in-Ok-clause-acts g c =
    let reads = c.caller_of.ensures.reads in
    let old = c.args.store.now in
    acts_on (parts_of g.S.Units g.S.Store.holds g.S.Store.clean g.S.Store.lasting g.S.Store.may_leave g.S.Store.reopens) old c.caller_of.new.desk
    (g.met.S.Store.stays_clean _ _ reads) (g.met.S.Units.stays_honest _ _ reads) (g.met.S.Units.stays_kept _ _ reads)
    (λ lasting honest. g.met.S.Store.stays_open _ _ lasting reads honest) (g.met.S.Store.stays_held _ _ reads) (g.met.S.Store.stays_left _ _ reads) (g.met.S.Store.stays_reopened _ _ reads)
    (is_ok c.call_admitted.result) (λ held h. IsNamedCaller held.world c.in-Ok.caller c.args.request → IsCallServed c.args.request c.args.now held h) _ c.call_admitted.new.store
    (λ honest kept h ahead. ahead (subst (λ w. IsNamedCaller w c.in-Ok.caller c.args.request) (sym (g.met.S.Store.world_held old)) (c.in-Ok.ensures.caller honest kept)))
    c.call_admitted.ensures.acts

pub returns-in-Ok-clause-exact : goal.returns-in-Ok-clause-exact
returns-in-Ok-clause-exact g c = λ honest kept.
    let reads = c.caller_of.ensures.reads in
    let old = c.args.store.now in
    let new = c.call_admitted.new.store in
    let honest_1 = c.call_admitted.ensures.acts.acts.was_honest honest in
    let kept_1 = g.met.S.Units.stays_kept _ _ reads honest_1 kept in
    given c.call_admitted.result (IsNamedCaller (g.S.Store.holds old).world c.in-Ok.caller c.args.request) (λ a. ServesCall c.args.request c.args.now a (g.S.Store.holds old) (g.S.Store.holds new))
    (subst (λ w. IsNamedCaller w c.in-Ok.caller c.args.request) (sym (g.met.S.Store.world_held old)) (c.in-Ok.ensures.caller honest_1 kept))
    (said_on (parts_of g.S.Units g.S.Store.holds g.S.Store.clean g.S.Store.lasting g.S.Store.may_leave g.S.Store.reopens) old c.caller_of.new.desk
    (g.met.S.Store.stays_clean _ _ reads) (g.met.S.Units.stays_honest _ _ reads) (g.met.S.Units.stays_kept _ _ reads)
    (λ lasting honest. g.met.S.Store.stays_open _ _ lasting reads honest) (g.met.S.Store.stays_held _ _ reads) (g.met.S.Store.stays_left _ _ reads) (g.met.S.Store.stays_reopened _ _ reads)
    (λ held. IfOk c.call_admitted.result (λ a. IsNamedCaller held.world c.in-Ok.caller c.args.request → ServesCall c.args.request c.args.now a held (g.S.Store.holds new)))
    honest_1 kept (c.call_admitted.ensures.exact honest kept_1))

pub returns-in-Err-BadAccount-clause-acts : goal.returns-in-Err-BadAccount-clause-acts
returns-in-Err-BadAccount-clause-acts g c =
    let reads = g.met.S.Units.reads_on _ _ _ c.caller_of.ensures.reads c.confirmed.ensures.reads in
    reads_act (parts_of g.S.Units g.S.Store.holds g.S.Store.clean g.S.Store.lasting g.S.Store.may_leave g.S.Store.reopens) c.args.store.now c.confirmed.new.store
    (g.met.S.Store.stays_clean _ _ reads) (g.met.S.Units.stays_honest _ _ reads) (g.met.S.Units.stays_kept _ _ reads)
    (λ lasting honest. g.met.S.Store.stays_open _ _ lasting reads honest) (g.met.S.Store.stays_held _ _ reads) (g.met.S.Store.stays_left _ _ reads) (g.met.S.Store.stays_reopened _ _ reads)
    (is_ok c.confirmed.result) _ c.confirmed.ensures.open

pub returns-in-Err-BadAccount-clause-exact : goal.returns-in-Err-BadAccount-clause-exact
returns-in-Err-BadAccount-clause-exact g c = λ honest kept.
    let reads = g.met.S.Units.reads_on _ _ _ c.caller_of.ensures.reads c.confirmed.ensures.reads in
    let old = c.args.store.now in
    let new = c.confirmed.new.store in
    only c.confirmed.result (Refusal fault.BadAccount) (λ a. ServesCall c.args.request c.args.now a (g.S.Store.holds old) (g.S.Store.holds new)) c.confirmed.ensures.answer
    (account_serves (g.S.Store.holds old) (g.S.Store.holds new) _ (g.met.S.Store.world_held old) (g.met.S.Store.stays_held _ _ reads honest kept) c.args.request c.args.now
    (c.in-Err-BadAccount.ensures.bad_account (g.met.S.Units.stays_honest _ _ c.confirmed.ensures.reads honest) kept (ap Err c.in-Err-BadAccount.field-0-is)))

pub returns-in-Err-BadHost-clause-acts : goal.returns-in-Err-BadHost-clause-acts
returns-in-Err-BadHost-clause-acts g c =
    let reads = g.met.S.Units.reads_on _ _ _ c.caller_of.ensures.reads c.confirmed-in-Err-BadHost.ensures.reads in
    reads_act (parts_of g.S.Units g.S.Store.holds g.S.Store.clean g.S.Store.lasting g.S.Store.may_leave g.S.Store.reopens) c.args.store.now c.confirmed-in-Err-BadHost.new.store
    (g.met.S.Store.stays_clean _ _ reads) (g.met.S.Units.stays_honest _ _ reads) (g.met.S.Units.stays_kept _ _ reads)
    (λ lasting honest. g.met.S.Store.stays_open _ _ lasting reads honest) (g.met.S.Store.stays_held _ _ reads) (g.met.S.Store.stays_left _ _ reads) (g.met.S.Store.stays_reopened _ _ reads)
    (is_ok c.confirmed-in-Err-BadHost.result) _ c.confirmed-in-Err-BadHost.ensures.open

pub returns-in-Err-BadHost-clause-exact : goal.returns-in-Err-BadHost-clause-exact
returns-in-Err-BadHost-clause-exact g c = λ honest kept.
    let reads = g.met.S.Units.reads_on _ _ _ c.caller_of.ensures.reads c.confirmed-in-Err-BadHost.ensures.reads in
    let old = c.args.store.now in
    let new = c.confirmed-in-Err-BadHost.new.store in
    only c.confirmed-in-Err-BadHost.result (Refusal fault.BadHost) (λ a. ServesCall c.args.request c.args.now a (g.S.Store.holds old) (g.S.Store.holds new)) c.confirmed-in-Err-BadHost.ensures.answer
    (number_serves (g.S.Store.holds old) (g.S.Store.holds new) _ (g.met.S.Store.world_held old) (g.met.S.Store.stays_held _ _ reads honest kept) c.args.request c.args.now
    (c.in-Err-BadHost.ensures.bad_host (g.met.S.Units.stays_honest _ _ c.confirmed-in-Err-BadHost.ensures.reads honest) kept (ap Err c.in-Err-BadHost.field-0-is)))

pub returns-clause-acts : goal.returns-clause-acts
returns-clause-acts g c =
    let reads = c.caller_of.ensures.reads in
    reads_act (parts_of g.S.Units g.S.Store.holds g.S.Store.clean g.S.Store.lasting g.S.Store.may_leave g.S.Store.reopens) c.args.store.now c.caller_of.new.desk
    (g.met.S.Store.stays_clean _ _ reads) (g.met.S.Units.stays_honest _ _ reads) (g.met.S.Units.stays_kept _ _ reads)
    (λ lasting honest. g.met.S.Store.stays_open _ _ lasting reads honest) (g.met.S.Store.stays_held _ _ reads) (g.met.S.Store.stays_left _ _ reads) (g.met.S.Store.stays_reopened _ _ reads)
    false _ (λ clean good. absurd (true≢false (sym good)))
