use Rattle.std.proofs.Common.{◌≡◌, None}
use Rattle.std.specs.Prelude.{is_ok, IfOk}
use Rattle.stores.specs.Acting.{parts_of}
use Rattle.stores.proofs.ReadsAct.{acts_on, reads_act, said_on}
use Rattle.message_engine.specs.Imports.{ServesImport, IsImportServed}
use Rattle.stores.proofs.Results.{given, only}
use Rattle.message_engine.proofs.ImportsServed.{again_serves, still_none}
use Rattle.message_engine.proofs.imports.import.Goals as goal

pub returns-in-Some-clause-acts : goal.returns-in-Some-clause-acts
returns-in-Some-clause-acts g c =
    let reads = g.met.S.Units.reads_on _ _ _ c.kept_batch.ensures.reads c.confirmed.ensures.reads in
    reads_act (parts_of g.S.Units g.S.Store.holds g.S.Store.clean g.S.Store.lasting g.S.Store.may_leave g.S.Store.reopens) c.args.store.now c.confirmed.new.store
    (g.met.S.Store.stays_clean _ _ reads) (g.met.S.Units.stays_honest _ _ reads) (g.met.S.Units.stays_kept _ _ reads)
    (λ lasting honest. g.met.S.Store.stays_open _ _ lasting reads honest) (g.met.S.Store.stays_held _ _ reads) (g.met.S.Store.stays_left _ _ reads) (g.met.S.Store.stays_reopened _ _ reads)
    (is_ok c.confirmed.result) _ c.confirmed.ensures.open

pub returns-in-Some-clause-exact : goal.returns-in-Some-clause-exact
returns-in-Some-clause-exact g c = λ honest kept.
    let reads = g.met.S.Units.reads_on _ _ _ c.kept_batch.ensures.reads c.confirmed.ensures.reads in
    let old = c.args.store.now in
    let new = c.confirmed.new.store in
    only c.confirmed.result c.told_again.result (λ a. ServesImport c.args.now c.args.kind c.args.batch.now c.args.text.now a (g.S.Store.holds old) (g.S.Store.holds new))
    c.confirmed.ensures.answer
    (again_serves c.args.now c.args.kind c.args.batch.now c.args.text.now c.as_str.result.now c.in_ok-kept.field-0 c.in-Some.kept c.told_again.result (g.S.Store.holds old) (g.S.Store.holds new)
    c.in-Some.is c.as_str.ensures (c.in_ok-kept.ensures.answer (g.met.S.Units.stays_honest _ _ c.confirmed.ensures.reads honest) kept) c.told_again.ensures
    (g.met.S.Store.stays_held _ _ reads honest kept))

pub returns-in-None-clause-acts : goal.returns-in-None-clause-acts
returns-in-None-clause-acts g c =
    let reads = c.kept_batch.ensures.reads in
    let old = c.args.store.now in
    acts_on (parts_of g.S.Units g.S.Store.holds g.S.Store.clean g.S.Store.lasting g.S.Store.may_leave g.S.Store.reopens) old c.kept_batch.new.self
    (g.met.S.Store.stays_clean _ _ reads) (g.met.S.Units.stays_honest _ _ reads) (g.met.S.Units.stays_kept _ _ reads)
    (λ lasting honest. g.met.S.Store.stays_open _ _ lasting reads honest) (g.met.S.Store.stays_held _ _ reads) (g.met.S.Store.stays_left _ _ reads) (g.met.S.Store.stays_reopened _ _ reads)
    (is_ok c.import_new.result)
    (λ held h. held.batches c.args.kind c.args.batch.now ≡ None → IsImportServed c.args.now c.args.kind c.args.batch.now c.args.text.now held h) _ c.import_new.new.store
    (λ honest kept h ahead. ahead (still_none (g.S.Store.holds old).batches c.args.kind c.args.batch.now c.as_str.result.now c.in_ok-kept.field-0 c.in-None.is c.as_str.ensures
    (c.in_ok-kept.ensures.answer honest kept)))
    c.import_new.ensures.acts

pub returns-in-None-clause-exact : goal.returns-in-None-clause-exact
returns-in-None-clause-exact g c = λ honest kept.
    let reads = c.kept_batch.ensures.reads in
    let old = c.args.store.now in
    let new = c.import_new.new.store in
    let honest_1 = c.import_new.ensures.acts.acts.was_honest honest in
    let kept_1 = g.met.S.Units.stays_kept _ _ reads honest_1 kept in
    given c.import_new.result ((g.S.Store.holds old).batches c.args.kind c.args.batch.now ≡ None) (λ a. ServesImport c.args.now c.args.kind c.args.batch.now c.args.text.now a (g.S.Store.holds old) (g.S.Store.holds new))
    (still_none (g.S.Store.holds old).batches c.args.kind c.args.batch.now c.as_str.result.now c.in_ok-kept.field-0 c.in-None.is c.as_str.ensures (c.in_ok-kept.ensures.answer honest_1 kept))
    (said_on (parts_of g.S.Units g.S.Store.holds g.S.Store.clean g.S.Store.lasting g.S.Store.may_leave g.S.Store.reopens) old c.kept_batch.new.self
    (g.met.S.Store.stays_clean _ _ reads) (g.met.S.Units.stays_honest _ _ reads) (g.met.S.Units.stays_kept _ _ reads)
    (λ lasting honest. g.met.S.Store.stays_open _ _ lasting reads honest) (g.met.S.Store.stays_held _ _ reads) (g.met.S.Store.stays_left _ _ reads) (g.met.S.Store.stays_reopened _ _ reads)
    (λ held. IfOk c.import_new.result (λ a. held.batches c.args.kind c.args.batch.now ≡ None → ServesImport c.args.now c.args.kind c.args.batch.now c.args.text.now a held (g.S.Store.holds new)))
    honest_1 kept (c.import_new.ensures.exact honest kept_1))
