use Rattle.std.proofs.Common.{◌≡◌, sym, ap, ◌∙◌, subst}
use Rattle.std.specs.Prelude.{IfOk}
use Rattle.sched_book.specs.Fits.{version_at}
use Rattle.job_choice.proofs.Known.{version_some}
use Rattle.lost_jobs.proofs.fates.version_on.Goals as goal

pub returns-in-Some-clause-answer : goal.returns-in-Some-clause-answer
returns-in-Some-clause-answer g c = λ honest kept.
    let d = g.met.S.Units in
    let draft = g.met.S.Draft in
    let asked = c.app_by_name.ensures.reads in
    let honest_1 = d.stays_honest _ _ c.version_for.ensures.reads honest in
    let kept_1 = d.stays_kept _ _ asked honest_1 kept in
    let same = draft.works_entry _ _ (draft.reads_works _ _ asked) honest_1 kept in
    let found = sym (c.in_ok-app_by_name.ensures.answer honest_1 kept) ∙ c.in-Some.is in
    subst (λ v. IfOk c.version_for.result (λ version. version ≡ v))
    (ap (λ w. version_at w c.args.host.now c.in-Some.app.place) same
    ∙ sym (version_some (g.S.Draft.entry c.args.working_set.now) c.args.host.now c.args.app.now c.in-Some.app found))
    (c.version_for.ensures.answer honest kept_1)
