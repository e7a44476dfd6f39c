use Rattle.std.proofs.Common.{◌≡◌, rules, ◌++◌, filter_map, map, ap, ap₂, ◌∙◌, List}
use Rattle.sched_book.specs.Delta.{edited}
use Rattle.sched_book.specs.Places.{held_by}
use Rattle.sched_book.specs.declared.delta.Edit.{Edit}
use Rattle.sched_book.specs.declared.world.World.{World}
use Rattle.lost_jobs.specs.Fated.{fate_change}
use Rattle.lost_jobs.specs.Fates.{fate}
use Rattle.lost_jobs.specs.declared.fates.Fate.{Fate}
use Rattle.sched_machine.specs.Asked.{resent_places}
use Rattle.sched_machine.proofs.Calls.Fit.{lost_fit}
use Rattle.sched_machine.proofs.Calls.Lost.{AreLost, fates_are, before_is, put_is, left_known, resent_known}
use Rattle.sched_machine.proofs.lost.lose.Given
use Rattle.sched_machine.proofs.lost.lose.Goals as goal

-- what the steps say of the world that the call found, and of those in between
lost : (g : Given.Over) (c : goal.After-drop-lost-inside-2 g) → g.S.Units.honest c.put_fates.new.working_set → g.S.Units.well_kept c.args.working_set.now
    → c.args.held.now ≡ held_by (g.S.Draft.entry c.args.working_set.now) c.args.call.now.number
    → AreLost (g.S.Draft.entry c.args.working_set.now) (g.S.Units.world c.args.working_set.now) (g.S.Units.world c.put_fates.new.working_set)
    c.args.request.now c.args.call.now c.args.now c.in_ok-lost.lost c.in_ok-fates.fates
    (g.S.Draft.edits c.args.working_set.now) (g.S.Draft.edits c.put_fates.new.working_set)
lost g c honest kept held =
    let u = g.met.S.Units in
    let draft = g.met.S.Draft in
    let world = g.S.Units.world in
    let honest_2 = draft.works_honest _ _ c.put_fates.ensures.works honest in
    let honest_1 = u.stays_honest _ _ c.fates_on.ensures.reads honest_2 in
    let kept_1 = u.stays_kept _ _ c.lost_on.ensures.reads honest_1 kept in
    let kept_2 = u.stays_kept _ _ c.fates_on.ensures.reads honest_2 kept_1 in
    let same_1 = u.stays_same _ _ c.lost_on.ensures.reads honest_1 kept in
    let same = u.stays_same _ _ c.fates_on.ensures.reads honest_2 kept_1 ∙ same_1 in
    let entry_1 = draft.works_entry _ _ (draft.reads_works _ _ c.lost_on.ensures.reads) honest_1 kept in
    let entry_2 = draft.works_entry _ _ (draft.reads_works _ _ c.fates_on.ensures.reads) honest_2 kept_1 ∙ entry_1 in
    let entry = draft.works_entry _ _ c.put_fates.ensures.works honest kept_2 ∙ entry_2 in
    let edits = draft.reads_edits _ _ c.fates_on.ensures.reads ∙ draft.reads_edits _ _ c.lost_on.ensures.reads in
    record {
      found = c.in_ok-lost.ensures.answer honest_1 kept held;
      told = c.in_ok-fates.ensures.answer honest_2 kept_1
          ∙ ap₂ (λ (e : World) ps. map (fate e c.args.call.now.host c.args.now) ps) entry_1 c.as_slice.ensures;
      here = draft.is_edited c.args.working_set.now;
      there = draft.is_edited c.put_fates.new.working_set ∙ ap (λ (e : World). edited e (g.S.Draft.edits c.put_fates.new.working_set)) entry;
      put = c.in_ok-put_fates.ensures.edits honest kept_2
          ∙ ap₂ (λ (ds : List Edit) (fs : List Fate). ds ++ filter_map (fate_change (world c.fates_on.new.working_set)) fs) edits c.as_slice-2.ensures
          ∙ ap (λ (w : World). g.S.Draft.edits c.args.working_set.now ++ filter_map (fate_change w) c.in_ok-fates.fates) same;
    }

pub returns-clause-left : goal.returns-clause-left
returns-clause-left g c = λ honest kept calling held reported. left_known _ _ _ _ _ _ _ _ _ _ (lost g c honest kept held) calling reported

pub returns-clause-fits : goal.returns-clause-fits
returns-clause-fits g c = λ honest kept calling held reported fits.
    let are = lost g c honest kept held in
    lost_fit _ _ _ c.args.now _ _ _ (search rules) calling
    (before_is _ _ _ _ _ _ _ _ _ _ are calling reported) (fates_are _ _ _ _ _ _ _ _ _ _ are calling reported)
    (put_is _ _ _ _ _ _ _ _ _ _ are calling reported) fits

pub returns-clause-resent : goal.returns-clause-resent
returns-clause-resent g c = λ honest kept calling held reported.
    resent_known _ _ _ _ _ _ _ _ _ _ (lost g c honest kept held) calling reported _
    (c.in_ok-resent.ensures ∙ ap resent_places c.as_slice-3.ensures)
