use Rattle.std.proofs.Common.{◌≡◌, sym, ap, ◌∙◌, subst}
use Rattle.std.specs.Prelude.{IfOk}
use Rattle.sched_book.specs.Fits.{version_at}
use Rattle.job_choice.proofs.Known.{version_some}
use Rattle.job_choice.proofs.choice.version_for.Goals as goal

pub returns-in-Some-clause-answer : goal.returns-in-Some-clause-answer
returns-in-Some-clause-answer g c = λ honest kept.
    let honest_before = g.met.D.Units.stays_honest _ _ c.version_for.ensures.reads honest in
    let kept_before = g.met.D.Units.stays_kept _ _ c.app_by_name.ensures.reads honest_before kept in
    let same = g.met.D.Units.stays_same _ _ c.app_by_name.ensures.reads honest_before kept in
    let found = sym (c.in_ok-app_by_name.ensures.answer honest_before kept) ∙ c.in-Some.is in
    subst (λ v. IfOk c.version_for.result (λ version. version ≡ v))
    (ap (λ w. version_at w c.args.host.now c.in-Some.app.place) same
    ∙ sym (version_some (g.D.Units.world c.args.desk.now) c.args.host.now c.args.app.now c.in-Some.app found))
    (c.version_for.ensures.answer honest kept_before)
