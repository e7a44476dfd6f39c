-- One more job is given.
use Rattle.std.proofs.Common.{◌+◌, drop, sym, ap, ◌∙◌, subst, rules}
use Rattle.std.specs.Prelude.{IsSome, fold}
use Rattle.std.proofs.lemmas.List.{at_drop_more}
use Rattle.std.proofs.lemmas.List.Elements.{All-head}
use Rattle.sched_book.specs.Places.{instance_at}
use Rattle.sched_book.specs.Step.{grant_one}
use Rattle.sched_book.specs.declared.instance.Place.{Place}
use Rattle.job_choice.specs.Chosen.{places_of}
use Rattle.job_choice.specs.declared.granted.Granted.{Granted}
use Rattle.sched_machine.specs.Granting.{AreThere, FitWithHost}
use Rattle.sched_machine.proofs.Calls.Granted.{there_next}
use Rattle.sched_machine.proofs.owners.own_all.Goals as goal

pub loop-job-preserved : goal.loop-job-preserved
loop-job-preserved g c =
    let draft = g.met.S.Draft in
    let inv = c.loop-job.invariant in
    let jobs = c.args.jobs.now in
    let i = c.loop-job.job-index in
    let step = grant_one c.args.host c.args.now in
    let so_far = g.S.Units.world c.loop-job.working_set in
    record {
      works = draft.works_on _ _ _ inv.works c.give_one.ensures.works;
      told = λ honest kept.
          let before = draft.works_honest _ _ c.give_one.ensures.works honest in
          let well = draft.works_kept _ _ inv.works before kept in
          ap (λ w. fold step w (places_of (drop (i + 1) jobs))) (c.in_ok-give_one.ensures.left honest well ∙ ap (λ (j : Granted). step so_far j.place) c.job-item.is)
          ∙ sym (at_drop_more (λ js. fold step so_far (places_of js)) jobs i _ c.loop-job-test.true)
          ∙ inv.told before kept;
      fits = λ honest kept fit.
          let before = draft.works_honest _ _ c.give_one.ensures.works honest in
          let well = draft.works_kept _ _ inv.works before kept in
          subst (λ w. FitWithHost w c.args.host (g.S.Draft.edits c.loop-job.working_set) → FitWithHost w c.args.host (g.S.Draft.edits c.give_one.new.working_set))
          (draft.works_entry _ _ inv.works before kept)
          (c.in_ok-give_one.ensures.fits honest well) (inv.fits before kept fit);
      there = λ honest kept there.
          let before = draft.works_honest _ _ c.give_one.ensures.works honest in
          let well = draft.works_kept _ _ inv.works before kept in
          there_next c.args.host c.args.now so_far _ _ (places_of (drop (i + 1) jobs)) (c.in_ok-give_one.ensures.left honest well ∙ ap (λ (j : Granted). step so_far j.place) c.job-item.is)
          (subst (λ js. AreThere so_far (places_of js)) (at_drop_more (λ js. js) jobs i _ c.loop-job-test.true) (inv.there before kept there));
    }

-- the instance exists
pub returns-in_err-give_one-clause-causes : goal.returns-in_err-give_one-clause-causes
returns-in_err-give_one-clause-causes g c honest kept there =
    let draft = g.met.S.Draft in
    let inv = c.loop-job.invariant in
    let so_far = g.S.Units.world c.loop-job.working_set in
    let before = draft.works_honest _ _ c.give_one.ensures.works honest in
    let well = draft.works_kept _ _ inv.works before kept in
    let here = subst (λ js. AreThere so_far (places_of js)) (at_drop_more (λ js. js) c.args.jobs.now c.loop-job.job-index _ c.loop-job-test.true)
    (inv.there before kept there) in
    let first = subst (λ (j : Granted). IsSome (instance_at so_far j.place)) (sym c.job-item.is)
    (All-head (λ (p : Place). IsSome (instance_at so_far p)) _ (places_of (drop (c.loop-job.job-index + 1) c.args.jobs.now)) here) in
    let why = draft.works_failing _ _ inv.works before kept _ (c.in_err-give_one.ensures.causes honest well first) in
    search (rules, why)
