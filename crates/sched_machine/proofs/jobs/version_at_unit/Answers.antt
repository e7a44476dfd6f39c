use Rattle.std.proofs.Common.{sym, ap, ◌∙◌}
use Rattle.std.proofs.lemmas.Result.{IfOk-weaker}
use Rattle.sched_book.specs.Fits.{version_for}
use Rattle.sched_book.specs.declared.world.World.{World}
use Rattle.sched_machine.proofs.Calls.Said.{version_none, version_some}
use Rattle.sched_machine.proofs.jobs.version_at_unit.Goals as goal

-- the row of the workunit is as it was
pub returns-in-None-clause-answer : goal.returns-in-None-clause-answer
returns-in-None-clause-answer g c = λ honest kept.
    let working_set = c.args.working_set.now in
    version_none (g.S.Draft.entry working_set) (g.S.Units.world working_set) c.args.host.now c.args.unit (g.S.Draft.kept working_set c.args.unit)
    (g.met.S.Draft.unit_states_are working_set kept c.args.unit)
    (sym (c.in_ok-unit.ensures.answer honest kept) ∙ c.in-None.is)

pub returns-in-Some-clause-answer : goal.returns-in-Some-clause-answer
returns-in-Some-clause-answer g c = λ honest kept.
    let u = g.met.S.Units in
    let draft = g.met.S.Draft in
    let working_set = c.args.working_set.now in
    let w = g.S.Draft.entry working_set in
    let honest_1 = u.stays_honest _ _ c.version_on.ensures.reads honest in
    let kept_1 = u.stays_kept _ _ c.unit.ensures.reads honest_1 kept in
    let entry = draft.works_entry _ _ (draft.reads_works _ _ c.unit.ensures.reads) honest_1 kept in
    let stands = sym (c.in_ok-unit.ensures.answer honest_1 kept) ∙ c.in-Some.is in
    IfOk-weaker c.version_on.result _ _
    (λ version is.
    is
    ∙ ap (λ (e : World). version_for e c.args.host.now c.as_str.result.now) entry
    ∙ ap (version_for w c.args.host.now) c.as_str.ensures
    ∙ version_some w (g.S.Units.world working_set) c.args.host.now c.args.unit (g.S.Draft.kept working_set c.args.unit) (draft.unit_states_are working_set kept c.args.unit)
    c.in-Some.unit stands)
    (c.version_on.ensures.answer honest kept_1)
