use Rattle.std.proofs.Common.{rules}
use Rattle.std.specs.Prelude.{is_ok, OnOk}
use Rattle.stores.specs.Acting.{parts_of}
use Rattle.stores.specs.Held.{IsCommitted, IsKeptSoundly, MayBeCommitted}
use Rattle.stores.specs.declared.entry.Entry.TheVariants as entry
use Rattle.stores.proofs.ReadsAct.{acts_on, said_on}
use Rattle.message_engine.proofs.TicksServed.{tick_done, tick_ahead}
use Rattle.message_engine.proofs.ticks.tick.Goals as goal

pub returns-clause-acts : goal.returns-clause-acts
returns-clause-acts g c =
    let reads = c.step_tick.ensures.reads in
    let old = c.args.store.now in
    acts_on (parts_of g.S.Units g.S.Store.holds g.S.Store.clean g.S.Store.lasting g.S.Store.may_leave g.S.Store.reopens) old c.step_tick.new.desk
    (g.met.S.Store.stays_clean _ _ reads) (g.met.S.Units.stays_honest _ _ reads) (g.met.S.Units.stays_kept _ _ reads)
    (λ lasting honest. g.met.S.Store.stays_open _ _ lasting reads honest) (g.met.S.Store.stays_held _ _ reads) (g.met.S.Store.stays_left _ _ reads) (g.met.S.Store.stays_reopened _ _ reads)
    (is_ok c.make_lapse.result) (IsKeptSoundly c.in_ok-delta.delta entry.Nothing) _ c.make_lapse.new.store
    (λ honest kept h ahead. tick_ahead c.args.now c.in_ok-delta.count c.in_ok-delta.delta (g.S.Store.holds old) h _ (g.met.S.Store.world_held old) (search rules)
    (record { step = λ sound _. c.in_ok-delta.ensures.step honest kept sound; sound = λ sound _. c.in_ok-delta.ensures.sound honest kept sound; fits = λ sound _. c.in_ok-delta.ensures.fits honest kept sound }) ahead)
    c.make_lapse.ensures.acts

pub returns-clause-exact : goal.returns-clause-exact
returns-clause-exact g c = λ honest kept.
    let reads = c.step_tick.ensures.reads in
    let old = c.args.store.now in
    let new = c.make_lapse.new.store in
    let honest_1 = c.make_lapse.ensures.acts.acts.was_honest honest in
    let kept_1 = g.met.S.Units.stays_kept _ _ reads honest_1 kept in
    tick_done c.args.now c.in_ok-delta.count c.in_ok-delta.delta (g.S.Store.holds old) (g.S.Store.holds new) _ (g.met.S.Store.world_held old) (search rules)
    (record { step = λ sound _. c.in_ok-delta.ensures.step honest_1 kept sound; sound = λ sound _. c.in_ok-delta.ensures.sound honest_1 kept sound; fits = λ sound _. c.in_ok-delta.ensures.fits honest_1 kept sound })
    c.make_lapse.result c.make_lapse.ensures.answer
    (said_on (parts_of g.S.Units g.S.Store.holds g.S.Store.clean g.S.Store.lasting g.S.Store.may_leave g.S.Store.reopens) old c.step_tick.new.desk
    (g.met.S.Store.stays_clean _ _ reads) (g.met.S.Units.stays_honest _ _ reads) (g.met.S.Units.stays_kept _ _ reads)
    (λ lasting honest. g.met.S.Store.stays_open _ _ lasting reads honest) (g.met.S.Store.stays_held _ _ reads) (g.met.S.Store.stays_left _ _ reads) (g.met.S.Store.stays_reopened _ _ reads)
    (λ held. OnOk c.make_lapse.result (MayBeCommitted c.in_ok-delta.delta entry.Nothing held → IsCommitted c.in_ok-delta.delta entry.Nothing held (g.S.Store.holds new)))
    honest_1 kept (c.make_lapse.ensures.made honest kept_1))
