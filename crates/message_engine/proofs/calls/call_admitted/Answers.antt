use Rattle.std.proofs.Common.{◌∙◌}
use Rattle.std.specs.Prelude.{is_ok, IfOk}
use Rattle.stores.specs.Acting.{parts_of}
use Rattle.stores.proofs.Results.{given_more, only}
use Rattle.stores.proofs.ReadsAct.{acts_on, reads_act, said_on}
use Rattle.message_engine.specs.Calls.{IsNamedCaller, IsCallServed, MayAct, ServesCall}
use Rattle.message_engine.proofs.CallsServed.{again_serves, may_act}
use Rattle.message_engine.proofs.calls.call_admitted.Goals as goal

pub returns-in-None-clause-acts : goal.returns-in-None-clause-acts
returns-in-None-clause-acts g c =
    let reads = c.told_kept.ensures.reads in
    let old = c.args.store.now in
    acts_on (parts_of g.S.Units g.S.Store.holds g.S.Store.clean g.S.Store.lasting g.S.Store.may_leave g.S.Store.reopens) old c.told_kept.new.store
    (g.met.S.Store.stays_clean _ _ reads) (g.met.S.Units.stays_honest _ _ reads) (g.met.S.Units.stays_kept _ _ reads)
    (λ lasting honest. g.met.S.Store.stays_open _ _ lasting reads honest) (g.met.S.Store.stays_held _ _ reads) (g.met.S.Store.stays_left _ _ reads) (g.met.S.Store.stays_reopened _ _ reads)
    (is_ok c.call_fresh.result) (λ held h. MayAct held c.args.caller.now c.args.request.now → IsCallServed c.args.request.now c.args.now held h) _ c.call_fresh.new.store
    (λ honest kept h ahead named. ahead (may_act (g.S.Store.holds old) c.args.caller.now c.args.request.now c.as_str.result.now c.in_ok-answer.field-0
    (c.as_str.ensures ∙ c.in_ok-text.ensures.text) c.in-None.is (c.in_ok-answer.ensures.told honest kept) named))
    c.call_fresh.ensures.acts

pub returns-in-None-clause-exact : goal.returns-in-None-clause-exact
returns-in-None-clause-exact g c = λ honest kept.
    let reads = c.told_kept.ensures.reads in
    let old = c.args.store.now in
    let new = c.call_fresh.new.store in
    let honest_1 = c.call_fresh.ensures.acts.acts.was_honest honest in
    let kept_1 = g.met.S.Units.stays_kept _ _ reads honest_1 kept in
    given_more c.call_fresh.result (MayAct (g.S.Store.holds old) c.args.caller.now c.args.request.now) (IsNamedCaller (g.S.Store.holds old).world c.args.caller.now c.args.request.now)
    (λ a. ServesCall c.args.request.now c.args.now a (g.S.Store.holds old) (g.S.Store.holds new))
    (may_act (g.S.Store.holds old) c.args.caller.now c.args.request.now c.as_str.result.now c.in_ok-answer.field-0
    (c.as_str.ensures ∙ c.in_ok-text.ensures.text) c.in-None.is (c.in_ok-answer.ensures.told honest_1 kept))
    (said_on (parts_of g.S.Units g.S.Store.holds g.S.Store.clean g.S.Store.lasting g.S.Store.may_leave g.S.Store.reopens) old c.told_kept.new.store
    (g.met.S.Store.stays_clean _ _ reads) (g.met.S.Units.stays_honest _ _ reads) (g.met.S.Units.stays_kept _ _ reads)
    (λ lasting honest. g.met.S.Store.stays_open _ _ lasting reads honest) (g.met.S.Store.stays_held _ _ reads) (g.met.S.Store.stays_left _ _ reads) (g.met.S.Store.stays_reopened _ _ reads)
    (λ held. IfOk c.call_fresh.result (λ a. MayAct held c.args.caller.now c.args.request.now → ServesCall c.args.request.now c.args.now a held (g.S.Store.holds new)))
    honest_1 kept (c.call_fresh.ensures.exact honest kept_1))

pub returns-in-Some-clause-acts : goal.returns-in-Some-clause-acts
returns-in-Some-clause-acts g c =
    let reads = g.met.S.Units.reads_on _ _ _ c.told_kept.ensures.reads c.confirmed.ensures.reads in
    reads_act (parts_of g.S.Units g.S.Store.holds g.S.Store.clean g.S.Store.lasting g.S.Store.may_leave g.S.Store.reopens) c.args.store.now c.confirmed.new.store
    (g.met.S.Store.stays_clean _ _ reads) (g.met.S.Units.stays_honest _ _ reads) (g.met.S.Units.stays_kept _ _ reads)
    (λ lasting honest. g.met.S.Store.stays_open _ _ lasting reads honest) (g.met.S.Store.stays_held _ _ reads) (g.met.S.Store.stays_left _ _ reads) (g.met.S.Store.stays_reopened _ _ reads)
    (is_ok c.confirmed.result) _ c.confirmed.ensures.open

pub returns-in-Some-clause-exact : goal.returns-in-Some-clause-exact
returns-in-Some-clause-exact g c = λ honest kept.
    let reads = g.met.S.Units.reads_on _ _ _ c.told_kept.ensures.reads c.confirmed.ensures.reads in
    let old = c.args.store.now in
    let new = c.confirmed.new.store in
    only c.confirmed.result c.in-Some.answer (λ a. IsNamedCaller (g.S.Store.holds old).world c.args.caller.now c.args.request.now → ServesCall c.args.request.now c.args.now a (g.S.Store.holds old) (g.S.Store.holds new))
    c.confirmed.ensures.answer
    (again_serves (g.S.Store.holds old) (g.S.Store.holds new) _ (g.met.S.Store.world_held old) (g.met.S.Store.stays_held _ _ reads honest kept) c.args.request.now c.args.now c.args.caller.now
    c.as_str.result.now c.in_ok-answer.field-0 c.in-Some.answer (c.as_str.ensures ∙ c.in_ok-text.ensures.text) c.in-Some.is
    (c.in_ok-answer.ensures.told (g.met.S.Units.stays_honest _ _ c.confirmed.ensures.reads honest) kept))
