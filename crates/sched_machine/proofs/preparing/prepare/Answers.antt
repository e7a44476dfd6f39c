use Rattle.std.proofs.Common.{◌≡◌, length, ap, ◌∙◌, subst}
use Rattle.sched_book.specs.Places.{held_by}
use Rattle.sched_book.specs.declared.world.World.{World}
use Rattle.lost_jobs.specs.Holding.{HoldsNoMore}
use Rattle.sched_machine.specs.Calling.{IsEntered}
use Rattle.sched_machine.specs.Prepared.{IsSettledCall}
use Rattle.sched_machine.proofs.Calls.Prepared.{ready_call, still_entered}
use Rattle.sched_machine.proofs.preparing.prepare.Goals as goal

-- each part is work on the one working set
pub returns-clause-works : goal.returns-clause-works
returns-clause-works g c =
    let draft = g.met.S.Draft in
    draft.works_on _ _ _ c.enter.ensures.works (draft.works_on _ _ _ (draft.reads_works _ _ c.held_before.ensures.reads)
    (draft.works_on _ _ _ c.settle_call.ensures.works (draft.reads_works _ _ (g.met.S.Units.reads_on _ _ _ c.aborts_on.ensures.reads c.wish_of.ensures.reads))))

pub returns-in_err-wish-clause-works : goal.returns-in_err-wish-clause-works
returns-in_err-wish-clause-works g c =
    let draft = g.met.S.Draft in
    draft.works_on _ _ _ c.enter.ensures.works (draft.works_on _ _ _ (draft.reads_works _ _ c.held_before.ensures.reads)
    (draft.works_on _ _ _ c.settle_call.ensures.works (draft.reads_works _ _ (g.met.S.Units.reads_on _ _ _ c.aborts_on.ensures.reads c.wish_of.ensures.reads))))

pub returns-clause-ready : goal.returns-clause-ready
returns-clause-ready g c = λ honest kept none sound admitted.
    let u = g.met.S.Units in
    let draft = g.met.S.Draft in
    let world = g.S.Units.world in
    let edits = g.S.Draft.edits in
    let w = g.S.Draft.entry c.args.working_set.now in
    let r = c.args.request.now in
    let call = c.in_ok-call.call in
    let n = call.number in
    let honest_4 = u.stays_honest _ _ c.wish_of.ensures.reads honest in
    let honest_3 = u.stays_honest _ _ c.aborts_on.ensures.reads honest_4 in
    let honest_2 = draft.works_honest _ _ c.settle_call.ensures.works honest_3 in
    let honest_1 = u.stays_honest _ _ c.held_before.ensures.reads honest_2 in
    let kept_1 = draft.works_kept _ _ c.enter.ensures.works honest_1 kept in
    let kept_2 = u.stays_kept _ _ c.held_before.ensures.reads honest_2 kept_1 in
    let kept_3 = draft.works_kept _ _ c.settle_call.ensures.works honest_3 kept_2 in
    let kept_4 = u.stays_kept _ _ c.aborts_on.ensures.reads honest_4 kept_3 in
    let entry_1 = draft.works_entry _ _ c.enter.ensures.works honest_1 kept in
    let entry_2 = draft.works_entry _ _ (draft.reads_works _ _ c.held_before.ensures.reads) honest_2 kept_1 ∙ entry_1 in
    let entry_3 = draft.works_entry _ _ c.settle_call.ensures.works honest_3 kept_2 ∙ entry_2 in
    let entry_4 = draft.works_entry _ _ (draft.reads_works _ _ c.aborts_on.ensures.reads) honest_4 kept_3 ∙ entry_3 in
    let entered = c.in_ok-call.ensures.entered honest_1 kept none sound admitted in
    let held = c.in_ok-held.ensures.answer honest_2 kept_1 ∙ ap (λ (e : World). held_by e n) entry_1 in
    let settled = subst (λ (e : World). IsEntered e r call (world c.held_before.new.self) (edits c.held_before.new.self) → c.as_slice.result.now ≡ held_by e n
    → IsSettledCall e r call c.args.now c.in_ok-settled.settled (world c.settle_call.new.working_set) (edits c.settle_call.new.working_set)) entry_2
    (c.in_ok-settled.ensures.settled honest_3 kept_2)
    (still_entered w (world c.enter.new.working_set) (world c.held_before.new.self) r call (edits c.enter.new.working_set) (edits c.held_before.new.self)
    (u.stays_same _ _ c.held_before.ensures.reads honest_2 kept_1) (draft.reads_edits _ _ c.held_before.ensures.reads) entered)
    (c.as_slice.ensures ∙ held) in
    ready_call w (world c.settle_call.new.working_set) (world c.aborts_on.new.working_set) (world c.wish_of.new.working_set)
    r c.args.now _ (edits c.settle_call.new.working_set) (edits c.wish_of.new.working_set) c.as_slice-3.result.now
    (u.stays_same _ _ c.aborts_on.ensures.reads honest_4 kept_3) (u.stays_same _ _ c.wish_of.ensures.reads honest kept_4)
    (draft.reads_edits _ _ c.wish_of.ensures.reads ∙ draft.reads_edits _ _ c.aborts_on.ensures.reads) c.as_slice-3.ensures
    entered.calling settled (c.in_ok-aborted.ensures.answer honest_4 kept_3)
    (c.in_ok-wish.ensures.row honest kept_4)
    (subst (λ (e : World). c.as_slice-2.result.now ≡ held_by e n → HoldsNoMore e (world c.aborts_on.new.working_set) n → c.in_ok-wish.wish.held ≡ length (held_by (world c.aborts_on.new.working_set) n))
    entry_4 (c.in_ok-wish.ensures.held honest kept_4) (c.as_slice-2.ensures ∙ held))
    (c.in_ok-wish.ensures.before honest kept_4)
