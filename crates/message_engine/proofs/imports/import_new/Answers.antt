use Rattle.std.proofs.Common.{◌≡◌, ◌∙◌, Ok, Some, None, ap, sym, rules}
use Rattle.std.specs.Prelude.{is_ok, IfOk}
use Rattle.sched_book.specs.Imports.{fault_of_rows, shelf_of}
use Rattle.stores.specs.Acting.{parts_of}
use Rattle.stores.proofs.ReadsAct.{acts_on, reads_act, said_on}
use Rattle.pasts.specs.declared.answer.AnswerContent.TheVariants.{Refusal}
use Rattle.message_engine.specs.Imports.{import_of, ServesImport}
use Rattle.message_engine.specs.Stores.{IsServed, ServesIn}
use Rattle.stores.proofs.Results.{added, only}
use Rattle.message_engine.proofs.ImportsServed.{read_on, read_ahead, unread_serves, forbidden_serves, unforbidden}
use Rattle.message_engine.proofs.imports.import_new.Goals as goal

pub returns-in-Ok-check_rows-clause-acts : goal.returns-in-Ok-check_rows-clause-acts
returns-in-Ok-check_rows-clause-acts g c =
    let reads = c.check_rows.ensures.reads in
    let old = c.args.store.now in
    let rows = c.in-Ok.rows in
    acts_on (parts_of g.S.Units g.S.Store.holds g.S.Store.clean g.S.Store.lasting g.S.Store.may_leave g.S.Store.reopens) old c.check_rows.new.desk
    (g.met.S.Store.stays_clean _ _ reads) (g.met.S.Units.stays_honest _ _ reads) (g.met.S.Units.stays_kept _ _ reads)
    (λ lasting honest. g.met.S.Store.stays_open _ _ lasting reads honest) (g.met.S.Store.stays_held _ _ reads) (g.met.S.Store.stays_left _ _ reads) (g.met.S.Store.stays_reopened _ _ reads)
    (is_ok c.add_rows.result)
    (λ held h. held.batches c.args.kind c.args.batch.now ≡ None → fault_of_rows (shelf_of held.world) rows ≡ None
    → IsServed (import_of c.args.now c.args.kind c.args.batch.now c.args.text.now (Ok rows)) held h) _ c.add_rows.new.store
    (λ honest kept h ahead. read_ahead c.args.now c.args.kind c.args.batch.now c.args.text.now rows (g.S.Store.holds old) h c.in-Ok.ensures.ok
    (λ none. ahead none (unforbidden (g.S.Store.holds old) _ (g.met.S.Store.world_held old) rows None (c.in-Ok-check_rows.ensures.ok honest kept))))
    c.add_rows.ensures.acts

pub returns-in-Ok-check_rows-clause-exact : goal.returns-in-Ok-check_rows-clause-exact
returns-in-Ok-check_rows-clause-exact g c = λ honest kept.
    let reads = c.check_rows.ensures.reads in
    let old = c.args.store.now in
    let new = c.add_rows.new.store in
    let rows = c.in-Ok.rows in
    let honest_1 = c.add_rows.ensures.acts.acts.was_honest honest in
    let kept_1 = g.met.S.Units.stays_kept _ _ reads honest_1 kept in
    let says = said_on (parts_of g.S.Units g.S.Store.holds g.S.Store.clean g.S.Store.lasting g.S.Store.may_leave g.S.Store.reopens) old c.check_rows.new.desk
    (g.met.S.Store.stays_clean _ _ reads) (g.met.S.Units.stays_honest _ _ reads) (g.met.S.Units.stays_kept _ _ reads)
    (λ lasting honest. g.met.S.Store.stays_open _ _ lasting reads honest) (g.met.S.Store.stays_held _ _ reads) (g.met.S.Store.stays_left _ _ reads) (g.met.S.Store.stays_reopened _ _ reads)
    (λ held. IfOk c.add_rows.result (λ a. held.batches c.args.kind c.args.batch.now ≡ None → fault_of_rows (shelf_of held.world) rows ≡ None
    → ServesIn (import_of c.args.now c.args.kind c.args.batch.now c.args.text.now (Ok rows)) a held (g.S.Store.holds new)))
    honest_1 kept (c.add_rows.ensures.exact honest kept_1) in
    read_on c.args.now c.args.kind c.args.batch.now c.args.text.now rows (g.S.Store.holds old) (g.S.Store.holds new) c.add_rows.result c.in-Ok.ensures.ok
    (added c.add_rows.result _ _ _ (unforbidden (g.S.Store.holds old) _ (g.met.S.Store.world_held old) rows None (c.in-Ok-check_rows.ensures.ok honest_1 kept)) says)

pub returns-in-Err-clause-acts : goal.returns-in-Err-clause-acts
returns-in-Err-clause-acts g c =
    let reads = c.confirmed.ensures.reads in
    reads_act (parts_of g.S.Units g.S.Store.holds g.S.Store.clean g.S.Store.lasting g.S.Store.may_leave g.S.Store.reopens) c.args.store.now c.confirmed.new.store
    (g.met.S.Store.stays_clean _ _ reads) (g.met.S.Units.stays_honest _ _ reads) (g.met.S.Units.stays_kept _ _ reads)
    (λ lasting honest. g.met.S.Store.stays_open _ _ lasting reads honest) (g.met.S.Store.stays_held _ _ reads) (g.met.S.Store.stays_left _ _ reads) (g.met.S.Store.stays_reopened _ _ reads)
    (is_ok c.confirmed.result) _ c.confirmed.ensures.open

pub returns-in-Err-clause-exact : goal.returns-in-Err-clause-exact
returns-in-Err-clause-exact g c = λ honest kept.
    let reads = c.confirmed.ensures.reads in
    let old = c.args.store.now in
    let new = c.confirmed.new.store in
    only c.confirmed.result (Refusal c.fault.result)
    (λ a. (g.S.Store.holds old).batches c.args.kind c.args.batch.now ≡ None → ServesImport c.args.now c.args.kind c.args.batch.now c.args.text.now a (g.S.Store.holds old) (g.S.Store.holds new))
    c.confirmed.ensures.answer
    (unread_serves c.args.now c.args.kind c.args.batch.now c.args.text.now c.in-Err.fault c.fault.result (g.S.Store.holds old) (g.S.Store.holds new)
    (search rules) c.fault.ensures c.in-Err.ensures.err (g.met.S.Store.stays_held _ _ reads honest kept))

pub returns-clause-acts : goal.returns-clause-acts
returns-clause-acts g c =
    let confirmed = c.confirmed-in-Err-check_rows in
    let reads = g.met.S.Units.reads_on _ _ _ c.check_rows.ensures.reads confirmed.ensures.reads in
    reads_act (parts_of g.S.Units g.S.Store.holds g.S.Store.clean g.S.Store.lasting g.S.Store.may_leave g.S.Store.reopens) c.args.store.now confirmed.new.store
    (g.met.S.Store.stays_clean _ _ reads) (g.met.S.Units.stays_honest _ _ reads) (g.met.S.Units.stays_kept _ _ reads)
    (λ lasting honest. g.met.S.Store.stays_open _ _ lasting reads honest) (g.met.S.Store.stays_held _ _ reads) (g.met.S.Store.stays_left _ _ reads) (g.met.S.Store.stays_reopened _ _ reads)
    (is_ok confirmed.result) _ confirmed.ensures.open

pub returns-clause-exact : goal.returns-clause-exact
returns-clause-exact g c = λ honest kept.
    let confirmed = c.confirmed-in-Err-check_rows in
    let refusal = c.fault-in-Err-check_rows in
    let reads = g.met.S.Units.reads_on _ _ _ c.check_rows.ensures.reads confirmed.ensures.reads in
    let old = c.args.store.now in
    let new = confirmed.new.store in
    let rows = c.in-Ok.rows in
    let honest_1 = g.met.S.Units.stays_honest _ _ confirmed.ensures.reads honest in
    read_on c.args.now c.args.kind c.args.batch.now c.args.text.now rows (g.S.Store.holds old) (g.S.Store.holds new) confirmed.result c.in-Ok.ensures.ok
    (only confirmed.result (Refusal refusal.result)
    (λ a. (g.S.Store.holds old).batches c.args.kind c.args.batch.now ≡ None
    → ServesIn (import_of c.args.now c.args.kind c.args.batch.now c.args.text.now (Ok rows)) a (g.S.Store.holds old) (g.S.Store.holds new))
    confirmed.ensures.answer
    (forbidden_serves c.args.now c.args.kind c.args.batch.now c.args.text.now rows refusal.result (g.S.Store.holds old) (g.S.Store.holds new)
    (unforbidden (g.S.Store.holds old) _ (g.met.S.Store.world_held old) rows (Some refusal.result)
    (c.in-Err-check_rows.ensures.err honest_1 kept (search rules) ∙ ap Some (sym refusal.ensures)))
    (g.met.S.Store.stays_held _ _ reads honest kept)))
