use Rattle.std.proofs.Common.{sym, ap, ap₂, ◌∙◌, subst, rules, List}
use Rattle.std.proofs.lemmas.Result.{IfOk-weaker}
use Rattle.sched_book.specs.Delta.{edited}
use Rattle.sched_book.specs.Places.{held_by}
use Rattle.sched_book.specs.declared.delta.Edit.{Edit}
use Rattle.sched_book.specs.declared.world.World.{World}
use Rattle.call_working_set.specs.WorkingSets.{IsCallStateOf}
use Rattle.lost_jobs.proofs.Requested.{lost_of_both, lost_by_request}
use Rattle.lost_jobs.proofs.outer_calls.lost.Goals as goal

-- each step in the working set kept the world that the desk had
pub returns-clause-answer : goal.returns-clause-answer
returns-clause-answer g c = λ honest kept.
    let d = g.met.D.Units in
    let w = g.D.Units.world in
    let changes = c.args.edits.now in
    let honest_4 : g.D.Units.honest c.lost_on.new.working_set.desk.now = search rules in
    let honest_3 = d.stays_honest _ _ c.lost_on.ensures.reads.0 honest_4 in
    let honest_2 = d.stays_honest _ _ c.held_before.ensures.reads.0 honest_3 in
    let honest_1 = d.stays_honest _ _ c.put_all.ensures.works.0 honest_2 in
    let kept_1 = d.stays_kept _ _ c.settings.ensures.reads honest_1 kept in
    let kept_2 = d.stays_kept _ _ c.put_all.ensures.works.0 honest_2 kept_1 in
    let kept_3 = d.stays_kept _ _ c.held_before.ensures.reads.0 honest_3 kept_2 in
    let same_1 = d.stays_same _ _ c.settings.ensures.reads honest_1 kept in
    let same_2 = d.stays_same _ _ c.put_all.ensures.works.0 honest_2 kept_1 in
    let same_3 = d.stays_same _ _ c.held_before.ensures.reads.0 honest_3 kept_2 in
    let call_state_1 = c.new-call_state.ensures.call_state _ (c.in_ok-settings.ensures.answer honest_1 kept ∙ ap (λ v. v.settings) (sym same_1)) in
    let call_state_2 = subst (λ v. IsCallStateOf v c.put_all.new.working_set.call_state.now) (sym same_2) (c.put_all.ensures.works.1 honest_2 kept_1 call_state_1) in
    let call_state_3 = subst (λ v. IsCallStateOf v c.held_before.new.self.call_state.now) (sym same_3) (c.held_before.ensures.reads.2 honest_3 kept_2 call_state_2) in
    let held = c.as_slice-2.ensures ∙ c.in_ok-held.ensures.answer honest_3 (kept_2, call_state_2) ∙ ap (λ v. held_by v c.args.host) (sym same_3) in
    let changed =
    ap₂ (λ (v : World) (cs : List Edit). edited v cs) same_3 c.held_before.ensures.reads.1
    ∙ c.in_ok-put_all.ensures.put honest_2 (kept_1, call_state_1)
    ∙ ap₂ (λ (ds cs : List Edit). edited (edited (w c.settings.new.self) ds) cs) c.new-call_state.ensures.edits c.as_slice.ensures
    ∙ ap (λ v. edited v changes) same_1 in
    IfOk-weaker c.lost_on.result _ _
    (λ places are. lost_of_both c.args.host c.args.request.now places _ _ _ _ (same_3 ∙ same_2 ∙ same_1) changed (are held))
    (c.lost_on.ensures.answer honest_4 (kept_3, call_state_3))

pub returns-clause-of_request : goal.returns-clause-of_request
returns-clause-of_request g c = λ honest kept.
    IfOk-weaker c.lost_on.result _ _
    (λ places are records. lost_by_request (g.D.Units.world c.args.desk.now) c.args.edits.now c.args.host c.args.request.now records places are)
    (returns-clause-answer g c honest kept)
