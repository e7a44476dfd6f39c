use Rattle.std.proofs.Common.{◌≡◌, refl, rules, subst}
use Rattle.std.specs.Prelude.{is_ok, IfOk, OnOk}
use Rattle.stores.specs.Acting.{parts_of}
use Rattle.stores.specs.Held.{IsCommitted, IsKeptSoundly, MayBeCommitted}
use Rattle.stores.specs.Kinds.{kind_name}
use Rattle.stores.specs.declared.entry.Entry.{Entry}
use Rattle.stores.proofs.ReadsAct.{whole_too}
use Rattle.pasts.specs.Answers.{imported_text}
use Rattle.pasts.specs.declared.answer.AnswerContent.TheVariants as answers
use Rattle.message_engine.specs.Imports.{entry_of_batch}
use Rattle.message_engine.proofs.ImportsServed.{rows_done, rows_ahead}
use Rattle.message_engine.proofs.imports.add_rows.Goals as goal

pub returns-clause-acts : goal.returns-clause-acts
returns-clause-acts g c =
    let old = c.args.store.now in
    let held = g.S.Store.holds old in
    let kept : c.in_ok-entry.entry ≡ entry_of_batch c.args.kind c.args.batch.now c.args.text.now c.in_ok-delta.count = search rules in
    whole_too (parts_of g.S.Units g.S.Store.holds g.S.Store.clean g.S.Store.lasting g.S.Store.may_leave g.S.Store.reopens) (is_ok c.commit_and_answer.result) _ _ old c.commit_and_answer.new.store
    (λ h made none unrefused. rows_ahead c.args.now c.in_ok-delta.count c.args.kind c.args.batch.now c.args.text.now c.args.rows c.in_ok-delta.delta held h held.world refl
    (search rules) c.requires.limits (record { step = c.in_ok-delta.ensures.step held.world; sound = c.in_ok-delta.ensures.sound held.world; fits = c.in_ok-delta.ensures.fits held.world }) (subst (λ (e : Entry). IsKeptSoundly c.in_ok-delta.delta e held h) kept made) none unrefused)
    c.commit_and_answer.ensures.acts

pub returns-clause-exact : goal.returns-clause-exact
returns-clause-exact g c = λ honest kept_well.
    let held = g.S.Store.holds c.args.store.now in
    let new = g.S.Store.holds c.commit_and_answer.new.store in
    let kept : c.in_ok-entry.entry ≡ entry_of_batch c.args.kind c.args.batch.now c.args.text.now c.in_ok-delta.count = search rules in
    rows_done c.args.now c.in_ok-delta.count c.args.kind c.args.batch.now c.args.text.now c.args.rows c.in_ok-delta.delta held new held.world refl
    (search rules) c.requires.limits (record { step = c.in_ok-delta.ensures.step held.world; sound = c.in_ok-delta.ensures.sound held.world; fits = c.in_ok-delta.ensures.fits held.world }) c.commit_and_answer.result
    (let told : IfOk c.commit_and_answer.result (λ answer. answer ≡ answers.Good (imported_text (kind_name c.args.kind) c.args.batch.now c.in_ok-delta.count)) = search rules in told)
    (subst (λ (e : Entry). OnOk c.commit_and_answer.result (MayBeCommitted c.in_ok-delta.delta e held → IsCommitted c.in_ok-delta.delta e held new)) kept
    (c.commit_and_answer.ensures.made honest kept_well))
