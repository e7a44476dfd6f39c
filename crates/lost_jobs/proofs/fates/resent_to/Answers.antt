use Rattle.std.proofs.Common.{◌≡◌, ℕ, Bool, true, false, cond, Option, Some, None, refl, sym, ap, ap₂, ◌∙◌, rules}
use Rattle.std.specs.Bool.{then_some}
use Rattle.sched_book.specs.Fits.{version_for, fits}
use Rattle.sched_book.specs.Lost.{deadline_after}
use Rattle.sched_book.specs.declared.rows.Version.{Version}
use Rattle.lost_jobs.specs.UnitStates.{open_job_on}
use Rattle.lost_jobs.proofs.OnUnitStates.{resent-is}
use Rattle.lost_jobs.proofs.fates.resent_to.Goals as goal

by_test : (b : Bool) (deadline : ℕ) → then_some b deadline ≡ cond b (Some deadline) None
by_test true deadline = refl
by_test false deadline = refl

-- both calls read one world
pub returns-clause-answer : goal.returns-clause-answer
returns-clause-answer g c = λ honest kept.
    let d = g.met.S.Units in
    let draft = g.met.S.Draft in
    let host = c.args.host.now in
    let job = c.in-Some.job in
    let honest_1 = d.stays_honest _ _ c.version_on.ensures.reads honest in
    let kept_1 = d.stays_kept _ _ c.read.ensures.reads honest_1 kept in
    let same = draft.works_entry _ _ (draft.reads_works _ _ c.read.ensures.reads) honest_1 kept in
    let read = c.in_ok-read.ensures.answer honest_1 kept in
    let version =
    c.as_ref.ensures.value ∙ c.in_ok-version.ensures.answer honest kept_1
    ∙ ap₂ (λ w name. version_for w host name) same c.as_str.ensures in
    let told = sym c.in-Some.is ∙ c.in_ok-job.ensures ∙ ap (λ o. open_job_on o c.args.place.number) c.unit_state.ensures in
    c.then_some.ensures
    ∙ by_test c.fits.result c.deadline_after-deadline.result
    ∙ ap₂ (λ (b : Bool) (deadline : ℕ). cond b (Some deadline) None)
    (c.fits.ensures ∙ ap (λ (v : Option Version). fits host job.unit v) version)
    (c.deadline_after-deadline.ensures ∙ ap (λ seconds. deadline_after c.args.now seconds job.unit.delay_bound job.deadline) c.seconds_at-seconds.ensures)
    ∙ resent-is (g.S.Draft.entry c.args.working_set.now) host c.args.now c.args.place (g.S.Units.world c.args.working_set.now) _ (Some job) read told

pub returns-in_err-version-clause-causes : goal.returns-in_err-version-clause-causes
returns-in_err-version-clause-causes g c honest kept =
    let units = g.met.S.Units in
    let honest_read = units.stays_honest _ _ c.version_on.ensures.reads honest in
    let kept_read = units.stays_kept _ _ c.read.ensures.reads honest_read kept in
    let why = units.stays_failing _ _ c.read.ensures.reads honest_read kept _ (c.in_err-version.ensures.causes honest kept_read) in
    search (rules, why)
