use Rattle.std.proofs.Common.{Err, ap, sym, true≢false, rules}
use Rattle.std.specs.Prelude.{false, is_ok, OnOk}
use Rattle.rpc_records.specs.declared.fault.Fault.TheVariants as fault
use Rattle.stores.specs.Acting.{parts_of}
use Rattle.stores.specs.Held.{IsCommitted, IsKeptSoundly, MayBeCommitted}
use Rattle.stores.proofs.Results.{only}
use Rattle.stores.proofs.ReadsAct.{acts_on, reads_act, said_on}
use Rattle.pasts.specs.declared.answer.AnswerContent.TheVariants.{Refusal}
use Rattle.message_engine.specs.Calls.{MayAct, ServesCall, entry_of_call}
use Rattle.message_engine.proofs.CallsServed.{kept_serves, kept_ahead, full_serves}
use Rattle.message_engine.proofs.calls.call_fresh.Goals as goal

pub returns-in-Ok-clause-acts : goal.returns-in-Ok-clause-acts
returns-in-Ok-clause-acts g c =
    let reads = c.step_call.ensures.reads in
    let old = c.args.store.now in
    let e = entry_of_call c.args.request.now.rpc_seqno c.args.text c.in-Ok.reply in
    acts_on (parts_of g.S.Units g.S.Store.holds g.S.Store.clean g.S.Store.lasting g.S.Store.may_leave g.S.Store.reopens) old c.step_call.new.desk
    (g.met.S.Store.stays_clean _ _ reads) (g.met.S.Units.stays_honest _ _ reads) (g.met.S.Units.stays_kept _ _ reads)
    (λ lasting honest. g.met.S.Store.stays_open _ _ lasting reads honest) (g.met.S.Store.stays_held _ _ reads) (g.met.S.Store.stays_left _ _ reads) (g.met.S.Store.stays_reopened _ _ reads)
    (is_ok c.keep.result) (IsKeptSoundly c.in-Ok.delta e) _ c.keep.new.store
    (λ honest kept h ahead. kept_ahead (g.S.Store.holds old) h _ (g.met.S.Store.world_held old) c.args.caller.now c.args.request.now c.args.now c.in-Ok.delta c.in-Ok.reply c.args.text
    (search rules) c.requires.in_range c.requires.text
    (record { step = c.in-Ok.ensures.step honest kept; sound = c.in-Ok.ensures.sound honest kept; fits = c.in-Ok.ensures.fits honest kept }) ahead)
    c.keep.ensures.acts

pub returns-in-Ok-clause-exact : goal.returns-in-Ok-clause-exact
returns-in-Ok-clause-exact g c = λ honest kept.
    let reads = c.step_call.ensures.reads in
    let old = c.args.store.now in
    let e = entry_of_call c.args.request.now.rpc_seqno c.args.text c.in-Ok.reply in
    let honest_1 = c.keep.ensures.acts.acts.was_honest honest in
    let kept_1 = g.met.S.Units.stays_kept _ _ reads honest_1 kept in
    kept_serves (g.S.Store.holds old) (g.S.Store.holds c.keep.new.store) _ (g.met.S.Store.world_held old) c.args.caller.now c.args.request.now c.args.now c.in-Ok.delta c.in-Ok.reply c.args.text
    (search rules) c.requires.in_range c.requires.text
    (record { step = c.in-Ok.ensures.step honest_1 kept; sound = c.in-Ok.ensures.sound honest_1 kept; fits = c.in-Ok.ensures.fits honest_1 kept })
    c.keep.result c.keep.ensures.answer
    (said_on (parts_of g.S.Units g.S.Store.holds g.S.Store.clean g.S.Store.lasting g.S.Store.may_leave g.S.Store.reopens) old c.step_call.new.desk
    (g.met.S.Store.stays_clean _ _ reads) (g.met.S.Units.stays_honest _ _ reads) (g.met.S.Units.stays_kept _ _ reads)
    (λ lasting honest. g.met.S.Store.stays_open _ _ lasting reads honest) (g.met.S.Store.stays_held _ _ reads) (g.met.S.Store.stays_left _ _ reads) (g.met.S.Store.stays_reopened _ _ reads)
    (λ held. OnOk c.keep.result (MayBeCommitted c.in-Ok.delta e held → IsCommitted c.in-Ok.delta e held (g.S.Store.holds c.keep.new.store)))
    honest_1 kept (c.keep.ensures.made honest kept_1))

pub returns-in-Err-HostsFull-clause-acts : goal.returns-in-Err-HostsFull-clause-acts
returns-in-Err-HostsFull-clause-acts g c =
    let reads = g.met.S.Units.reads_on _ _ _ c.step_call.ensures.reads c.confirmed.ensures.reads in
    reads_act (parts_of g.S.Units g.S.Store.holds g.S.Store.clean g.S.Store.lasting g.S.Store.may_leave g.S.Store.reopens) c.args.store.now c.confirmed.new.store
    (g.met.S.Store.stays_clean _ _ reads) (g.met.S.Units.stays_honest _ _ reads) (g.met.S.Units.stays_kept _ _ reads)
    (λ lasting honest. g.met.S.Store.stays_open _ _ lasting reads honest) (g.met.S.Store.stays_held _ _ reads) (g.met.S.Store.stays_left _ _ reads) (g.met.S.Store.stays_reopened _ _ reads)
    (is_ok c.confirmed.result) _ c.confirmed.ensures.open

pub returns-in-Err-HostsFull-clause-exact : goal.returns-in-Err-HostsFull-clause-exact
returns-in-Err-HostsFull-clause-exact g c = λ honest kept.
    let reads = g.met.S.Units.reads_on _ _ _ c.step_call.ensures.reads c.confirmed.ensures.reads in
    let old = c.args.store.now in
    let new = c.confirmed.new.store in
    only c.confirmed.result (Refusal fault.HostsFull) (λ a. MayAct (g.S.Store.holds old) c.args.caller.now c.args.request.now → ServesCall c.args.request.now c.args.now a (g.S.Store.holds old) (g.S.Store.holds new))
    c.confirmed.ensures.answer
    (λ may. full_serves (g.S.Store.holds old) (g.S.Store.holds new) _ (g.met.S.Store.world_held old) (g.met.S.Store.stays_held _ _ reads honest kept) c.args.request.now c.args.now c.args.caller.now
    (c.in-Err-HostsFull.ensures.full (g.met.S.Units.stays_honest _ _ c.confirmed.ensures.reads honest) kept (ap Err c.in-Err-HostsFull.field-0-is)) may)

pub returns-clause-acts : goal.returns-clause-acts
returns-clause-acts g c =
    let reads = c.step_call.ensures.reads in
    reads_act (parts_of g.S.Units g.S.Store.holds g.S.Store.clean g.S.Store.lasting g.S.Store.may_leave g.S.Store.reopens) c.args.store.now c.step_call.new.desk
    (g.met.S.Store.stays_clean _ _ reads) (g.met.S.Units.stays_honest _ _ reads) (g.met.S.Units.stays_kept _ _ reads)
    (λ lasting honest. g.met.S.Store.stays_open _ _ lasting reads honest) (g.met.S.Store.stays_held _ _ reads) (g.met.S.Store.stays_left _ _ reads) (g.met.S.Store.stays_reopened _ _ reads)
    false _ (λ clean good. absurd (true≢false (sym good)))
