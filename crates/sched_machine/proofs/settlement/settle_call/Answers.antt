use Rattle.std.proofs.Common.{◌≡◌, ◌∙◌, subst}
use Rattle.sched_book.specs.Delta.{EditsFit}
use Rattle.sched_book.specs.Places.{held_by}
use Rattle.sched_book.specs.Settle.{settled}
use Rattle.sched_book.specs.Sound.{Sound}
use Rattle.sched_book.specs.Step.{after_reports, after_lost, resent_of}
use Rattle.sched_book.specs.declared.world.World.{World}
use Rattle.quorum_credit.specs.Settling.{AreScores}
use Rattle.sched_machine.specs.Calling.{IsCalling}
use Rattle.sched_machine.proofs.Calls.Settled.{entered_within, reports_known, settled_call}
use Rattle.sched_machine.proofs.settlement.settle_call.Goals as goal

pub returns-clause-settled : goal.returns-clause-settled
returns-clause-settled g c = λ honest kept entered held.
    let draft = g.met.S.Draft in
    let world = g.S.Units.world in
    let edits = g.S.Draft.edits in
    let working_set = c.args.working_set.now in
    let w = g.S.Draft.entry working_set in
    let k = c.args.call.now in
    let r = c.args.request.now in
    let honest_2 = draft.works_honest _ _ c.settle_read.ensures.works honest in
    let honest_1 = draft.works_honest _ _ c.lose.ensures.works honest_2 in
    let kept_1 = draft.works_kept _ _ c.record_on.ensures.works honest_1 kept in
    let kept_2 = draft.works_kept _ _ c.lose.ensures.works honest_2 kept_1 in
    let entry_1 = draft.works_entry _ _ c.record_on.ensures.works honest_1 kept in
    let entry_2 = draft.works_entry _ _ c.lose.ensures.works honest_2 kept_1 ∙ entry_1 in
    let calling = entered.calling in
    let reported = reports_known w (world working_set) r k (edits working_set) entered (world c.record_on.new.working_set) (c.in_ok-acked.ensures.recorded honest_1 kept) in
    let within = c.in_ok-acked.ensures.fits honest_1 kept calling.admitted.limits.results
    (entered_within w (world working_set) r k (edits working_set) entered (draft.is_edited working_set)) in
    let lost = subst (λ (e : World). IsCalling e r k → c.args.held.now ≡ held_by e k.number → world c.record_on.new.working_set ≡ after_reports e k.caller r
    → world c.lose.new.working_set ≡ after_lost e k.caller r c.args.now) entry_1 (c.in_ok-resent.ensures.left honest_2 kept_1) calling held reported in
    let fits = subst (λ (e : World). IsCalling e r k → c.args.held.now ≡ held_by e k.number → world c.record_on.new.working_set ≡ after_reports e k.caller r
    → EditsFit e (edits c.record_on.new.working_set) → EditsFit e (edits c.lose.new.working_set)) entry_1 (c.in_ok-resent.ensures.fits honest_2 kept_1) calling held reported within.fits in
    let resent = subst (λ (e : World). IsCalling e r k → c.args.held.now ≡ held_by e k.number → world c.record_on.new.working_set ≡ after_reports e k.caller r
    → c.in_ok-resent.resent ≡ resent_of e k.caller r) entry_1 (c.in_ok-resent.ensures.resent honest_2 kept_1) calling held reported in
    let settles = subst (λ (e : World). Sound e → EditsFit e (edits c.lose.new.working_set) → world c.settle_read.new.working_set ≡ settled e (world c.lose.new.working_set)) entry_2
    (c.in_ok-scores.ensures.settled honest kept_2) calling.sound fits in
    let fits_then = subst (λ (e : World). Sound e → EditsFit e (edits c.lose.new.working_set) → EditsFit e (edits c.settle_read.new.working_set)) entry_2
    (c.in_ok-scores.ensures.fits honest kept_2) calling.sound fits in
    let scores = subst (λ (e : World). Sound e → EditsFit e (edits c.lose.new.working_set) → AreScores e (world c.settle_read.new.working_set) c.in_ok-scores.scores) entry_2
    (c.in_ok-scores.ensures.scores honest kept_2) calling.sound fits in
    settled_call w (world c.lose.new.working_set) (world c.settle_read.new.working_set) r k c.args.now _ (edits c.settle_read.new.working_set)
    lost settles fits_then c.in_ok-acked.ensures.acked resent scores
