use Rattle.std.proofs.Common.{rules, [], ◌∷◌, ◌++◌, ◌<◌, sym, ap, ◌∙◌, subst, IfSome}
use Rattle.std.specs.Prelude.{IsSome}
use Rattle.std.specs.Option.{option_copied}
use Rattle.sched_book.specs.Limits.{most_instances}
use Rattle.sched_book.specs.Delta.{edited_one}
use Rattle.sched_book.specs.declared.delta.Edit.TheVariants as edit
use Rattle.sched_machine.specs.Granting.{given_on}
use Rattle.sched_machine.proofs.Calls.Granted.{given_is, given_fits}
use Rattle.sched_machine.proofs.owners.give_one.Goals as goal

pub returns-in_ok-put_instance-in-Some-clause-left : goal.returns-in_ok-put_instance-in-Some-clause-left
returns-in_ok-put_instance-in-Some-clause-left g c = λ honest kept.
    let u = g.met.S.Units in
    let working_set = c.args.working_set.now in
    let honest_1 = g.met.S.Draft.works_honest _ _ c.put_instance.ensures.works honest in
    let kept_1 = u.stays_kept _ _ c.read.ensures.reads honest_1 kept in
    c.in_ok-put_instance-in-Some.ensures.put honest kept_1
    ∙ ap (λ w. edited_one w (edit.Instance c.args.place c.in-Some.row)) (u.stays_same _ _ c.read.ensures.reads honest_1 kept)
    ∙ given_is (g.S.Draft.entry working_set) (g.S.Units.world working_set) c.args.place c.args.host c.args.now c.in-Some.row _ (c.in_ok-read.ensures.answer honest_1 kept)
    (sym c.in-Some.is ∙ c.in_ok-given_on.ensures.value ∙ ap (λ o. given_on o c.args.place.number c.args.host c.args.now) c.unit_state.ensures)

pub returns-in_ok-put_instance-in-Some-clause-fits : goal.returns-in_ok-put_instance-in-Some-clause-fits
returns-in_ok-put_instance-in-Some-clause-fits g c = λ honest kept.
    let draft = g.met.S.Draft in
    let working_set = c.args.working_set.now in
    let honest_1 = draft.works_honest _ _ c.put_instance.ensures.works honest in
    given_fits (g.S.Draft.entry working_set) (g.S.Units.world working_set) c.args.place c.args.host c.args.now c.in-Some.row _ (c.in_ok-read.ensures.answer honest_1 kept)
    (sym c.in-Some.is ∙ c.in_ok-given_on.ensures.value ∙ ap (λ o. given_on o c.args.place.number c.args.host c.args.now) c.unit_state.ensures)
    (g.S.Draft.edits working_set) (g.S.Draft.edits c.put_instance.new.self) (search rules) (draft.is_edited working_set)
    (c.in_ok-put_instance-in-Some.ensures.edits
    ∙ ap (λ cs. cs ++ edit.Instance c.args.place c.in-Some.row ∷ []) (draft.reads_edits _ _ c.read.ensures.reads))

-- the instance was read
pub returns-in_err-put_instance-in-Some-clause-causes : goal.returns-in_err-put_instance-in-Some-clause-causes
returns-in_err-put_instance-in-Some-clause-causes g c honest kept there =
    let u = g.met.S.Units in
    let draft = g.met.S.Draft in
    let honest_1 = draft.works_honest _ _ c.put_instance.ensures.works honest in
    let kept_1 = u.stays_kept _ _ c.read.ensures.reads honest_1 kept in
    let found = subst (λ row. IfSome row (λ _. IsSome (option_copied c.unit_state.result) × (c.args.place.number < most_instances))) c.in-Some.is
    c.in_ok-given_on.ensures.there in
    let told = c.in_err-put_instance-in-Some.ensures.causes honest kept_1 (subst IsSome c.unit_state.ensures found.0) found.1 in
    let why = u.stays_failing _ _ c.read.ensures.reads honest_1 kept _ told in
    search (rules, why)
