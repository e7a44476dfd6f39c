use Rattle.std.proofs.Common.{sym, ap, ◌∙◌, ◌++◌, subst}
use Rattle.quorum_credit.specs.Settling.{IsSettlement}
use Rattle.quorum_credit.proofs.SettledAll.{joined_settle, joined_fit}
use Rattle.quorum_credit.proofs.outer_calls.settle_all.Given
use Rattle.quorum_credit.proofs.outer_calls.settle_all.Goals as goal

-- what was settled over the call state, in the desk's first world
settlement : (g : Given.Over) (c : goal.After-drop-call_state-4 g) → g.D.Units.honest c.settle_onto.new.desk → g.D.Units.well_kept c.args.desk.now
    → IsSettlement (g.D.Units.world c.args.desk.now) c.args.edits.now c.settle_onto.new.call_state.edits c.args.touched.now
settlement g c honest kept =
    let d = g.met.D.Units in
    let honest_1 = d.stays_honest _ _ c.settle_onto.ensures.reads honest in
    let kept_1 = d.stays_kept _ _ c.settings.ensures.reads honest_1 kept in
    let here = d.stays_same _ _ c.settings.ensures.reads honest_1 kept in
    let begun = g.D.Units.world c.settings.new.self in
    let call_state = c.new-call_state.ensures.call_state begun (c.in_ok-settings.ensures.answer honest_1 kept ∙ ap (λ v. v.settings) (sym here)) in
    let edits = c.settle_onto.new.call_state.edits in
    subst (λ w. IsSettlement w c.args.edits.now edits c.args.touched.now) here
    (subst (λ cs. IsSettlement begun (cs ++ c.args.edits.now) edits c.args.touched.now) c.new-call_state.ensures.edits
    (c.in_ok-settle_onto.ensures.settled honest kept_1 call_state))

pub returns-clause-settled : goal.returns-clause-settled
returns-clause-settled g c = λ honest kept.
    joined_settle _ _ _ _ _ (settlement g c honest kept) _ c.len.ensures c.in_ok-edits_after.ensures

pub returns-clause-fits : goal.returns-clause-fits
returns-clause-fits g c = λ honest kept.
    joined_fit _ _ _ _ _ (settlement g c honest kept) _ c.len.ensures c.in_ok-edits_after.ensures
