use Rattle.std.proofs.Common.{get_or, sym, ◌∙◌, subst, rules}
use Rattle.sched_book.specs.declared.delta.Edit.TheVariants as edit
use Rattle.call_working_set.specs.WorkingSets.{IsOfKnown}
use Rattle.call_working_set.proofs.KnownEdits.{known_stays}
use Rattle.job_choice.specs.declared.granted.Granted.{Granted}
use Rattle.sched_machine.proofs.Calls.Taken.{next_taken, job_fits}
use Rattle.sched_machine.proofs.owners.take_classes.Goals as goal

pub loop-job-preserved : goal.loop-job-preserved
loop-job-preserved g c =
    let draft = g.met.S.Draft in
    let before = c.loop-job.invariant in
    let put = c.in_ok-take_class.ensures in
    let w = g.S.Draft.entry c.args.working_set.now in
    record {
      works = draft.works_on _ _ _ before.works c.take_class.ensures.works;
      told = λ honest kept.
          (let honest_0 = draft.works_honest _ _ c.take_class.ensures.works honest in
          next_taken (g.S.Units.world c.loop-job.working_set) (g.S.Units.world c.take_class.new.working_set) c.args.jobs.now c.loop-job.job-index c.job-item.result
          c.loop-job-test.true c.job-item.is (put.put honest (draft.works_kept _ _ before.works honest_0 kept))
          ∙ before.told honest_0 kept);
      fits = λ honest kept host can fits.
          (let honest_0 = draft.works_honest _ _ c.take_class.ensures.works honest in
          job_fits w host (g.S.Draft.edits c.loop-job.working_set) (g.S.Draft.edits c.take_class.new.working_set) c.args.jobs.now c.loop-job.job-index c.job-item.result
          can c.loop-job-test.true c.job-item.is put.edits (before.fits honest_0 kept host can fits));
      known = λ honest kept all k d less.
          (let honest_0 = draft.works_honest _ _ c.take_class.ensures.works honest in
          known_stays (g.S.Units.world c.loop-job.working_set) _ (edit.Class c.job-item.result.place.unit c.job-item.result.version.class)
          (let j = get_or c.args.jobs.now k d in edit.Class j.place.unit j.version.class)
          (put.put honest (draft.works_kept _ _ before.works honest_0 kept)) (before.known honest_0 kept all k d less));
    }

-- the workunit exists
pub returns-in_err-take_class-clause-causes : goal.returns-in_err-take_class-clause-causes
returns-in_err-take_class-clause-causes g c honest kept all =
    let draft = g.met.S.Draft in
    let before = c.loop-job.invariant in
    let so_far = g.S.Units.world c.loop-job.working_set in
    let honest_0 = draft.works_honest _ _ c.take_class.ensures.works honest in
    let well = draft.works_kept _ _ before.works honest_0 kept in
    let known = subst (λ (j : Granted). IsOfKnown so_far (edit.Class j.place.unit j.version.class)) (sym c.job-item.is)
    (before.known honest_0 kept all c.loop-job.job-index _ c.loop-job-test.true) in
    let why = draft.works_failing _ _ before.works honest_0 kept _ (c.in_err-take_class.ensures.causes honest well known) in
    search (rules, why)
