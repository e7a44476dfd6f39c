use Rattle.std.proofs.Common.{sym, refl, ap, ◌∙◌, [], ◌∷◌, ◌++◌}
use Rattle.sched_book.specs.Delta.{edited_one}
use Rattle.quorum_credit.specs.UnitStates.{late_on}
use Rattle.sched_book.specs.declared.delta.Edit.TheVariants as edit
use Rattle.quorum_credit.proofs.LateOnes.{late_is, late_fits, held_lapses}
use Rattle.quorum_credit.proofs.OnUnitStates.{late-is}
use Rattle.quorum_credit.proofs.late.put_late.Goals as goal

pub returns-in_ok-put_instance-in-Some-clause-put : goal.returns-in_ok-put_instance-in-Some-clause-put
returns-in_ok-put_instance-in-Some-clause-put g c = λ honest kept.
    let u = g.met.S.Units in
    let honest_1 = g.met.S.Draft.works_honest _ _ c.put_instance.ensures.works honest in
    let row =
    sym c.in-Some.is ∙ c.in_ok-late_on.ensures.value ∙ ap (λ o. late_on o c.args.place.number) c.unit_state.ensures
    ∙ late-is (g.S.Draft.entry c.args.working_set.now) (g.S.Units.world c.args.working_set.now) c.args.place _ (c.in_ok-read.ensures.answer honest_1 kept) in
    let kept_1 = u.stays_kept _ _ c.read.ensures.reads honest_1 kept in
    let here = u.stays_same _ _ c.read.ensures.reads honest_1 kept in
    c.in_ok-put_instance-in-Some.ensures.put honest kept_1
    ∙ ap (λ w. edited_one w (edit.Instance c.args.place c.in-Some.row)) here
    ∙ late_is (g.S.Units.world c.args.working_set.now) c.args.place c.in-Some.row row

pub returns-in_ok-put_instance-in-Some-clause-fits : goal.returns-in_ok-put_instance-in-Some-clause-fits
returns-in_ok-put_instance-in-Some-clause-fits g c = λ honest kept.
    let honest_1 = g.met.S.Draft.works_honest _ _ c.put_instance.ensures.works honest in
    let row =
    sym c.in-Some.is ∙ c.in_ok-late_on.ensures.value ∙ ap (λ o. late_on o c.args.place.number) c.unit_state.ensures
    ∙ late-is (g.S.Draft.entry c.args.working_set.now) (g.S.Units.world c.args.working_set.now) c.args.place _ (c.in_ok-read.ensures.answer honest_1 kept) in
    late_fits (g.S.Draft.entry c.args.working_set.now) (g.S.Units.world c.args.working_set.now) (g.S.Draft.edits c.args.working_set.now) (g.S.Draft.edits c.put_instance.new.self)
    c.args.place c.in-Some.row (g.met.S.Draft.is_edited c.args.working_set.now)
    row
    (c.in_ok-put_instance-in-Some.ensures.edits
    ∙ ap (λ cs. cs ++ edit.Instance c.args.place c.in-Some.row ∷ []) (g.met.S.Draft.reads_edits _ _ c.read.ensures.reads))

-- a host holds the instance, so it is found
pub returns-in-None-clause-causes : goal.returns-in-None-clause-causes
returns-in-None-clause-causes g c honest kept held =
    let entry = g.S.Draft.entry c.args.working_set.now in
    let world = g.S.Units.world c.args.working_set.now in
    absurd (held_lapses world c.args.place held
    (sym (late-is entry world c.args.place _ (c.in_ok-read.ensures.answer honest kept))
    ∙ sym (ap (λ o. late_on o c.args.place.number) c.unit_state.ensures) ∙ sym c.in_ok-late_on.ensures.value ∙ c.in-None.is))
