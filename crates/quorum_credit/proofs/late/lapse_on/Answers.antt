-- One more lapse: the working set belongs to the same call as at the beginning.
use Rattle.std.proofs.Common.{◌+◌, drop, sym, ap, ◌∙◌, subst, rules}
use Rattle.std.specs.Prelude.{fold}
use Rattle.std.proofs.lemmas.List.{at_drop_more}
use Rattle.sched_book.specs.Reports.{with_changed}
use Rattle.sched_book.specs.Lost.{with_lapse}
use Rattle.sched_book.specs.declared.instance.Lapse.TheVariants.{Late}
use Rattle.quorum_credit.specs.Late.{AreHeldInTurn}
use Rattle.quorum_credit.specs.Limited.{FitWithin}
use Rattle.quorum_credit.proofs.late.lapse_on.Goals as goal

pub loop-place-preserved : goal.loop-place-preserved
loop-place-preserved g c =
    let draft = g.met.S.Draft in
    let inv = c.loop-place.invariant in
    let places = c.args.places.now in
    let i = c.loop-place.place-index in
    let step = with_changed (with_lapse Late) in
    let so_far = g.S.Units.world c.loop-place.working_set in
    record {
      works = draft.works_on _ _ _ inv.works c.put_late.ensures.works;
      told = λ honest kept.
          let before = draft.works_honest _ _ c.put_late.ensures.works honest in
          let well = draft.works_kept _ _ inv.works before kept in
          ap (λ w. fold step w (drop (i + 1) places)) (c.in_ok-put_late.ensures.put honest well)
          ∙ sym (at_drop_more (fold step so_far) places i _ c.loop-place-test.true)
          ∙ inv.told before kept;
      fits = λ honest kept fit.
          let before = draft.works_honest _ _ c.put_late.ensures.works honest in
          let well = draft.works_kept _ _ inv.works before kept in
          subst (λ w. FitWithin w (g.S.Draft.edits c.loop-place.working_set) → FitWithin w (g.S.Draft.edits c.put_late.new.working_set))
          (draft.works_entry _ _ inv.works before kept)
          (c.in_ok-put_late.ensures.fits honest well) (inv.fits before kept fit);
      held = λ honest kept turns.
          let before = draft.works_honest _ _ c.put_late.ensures.works honest in
          let well = draft.works_kept _ _ inv.works before kept in
          let here = subst (AreHeldInTurn so_far) (at_drop_more (λ ps. ps) places i _ c.loop-place-test.true) (inv.held before kept turns) in
          subst (λ w. AreHeldInTurn w (drop (i + 1) places)) (sym (c.in_ok-put_late.ensures.put honest well)) here.1;
    }

-- the instance is held in its turn
pub returns-in_err-put_late-clause-causes : goal.returns-in_err-put_late-clause-causes
returns-in_err-put_late-clause-causes g c honest kept turns =
    let draft = g.met.S.Draft in
    let inv = c.loop-place.invariant in
    let so_far = g.S.Units.world c.loop-place.working_set in
    let before = draft.works_honest _ _ c.put_late.ensures.works honest in
    let well = draft.works_kept _ _ inv.works before kept in
    let here = subst (AreHeldInTurn so_far) (at_drop_more (λ ps. ps) c.args.places.now c.loop-place.place-index _ c.loop-place-test.true) (inv.held before kept turns) in
    let why = draft.works_failing _ _ inv.works before kept _ (c.in_err-put_late.ensures.causes honest well here.0) in
    search (rules, why)
