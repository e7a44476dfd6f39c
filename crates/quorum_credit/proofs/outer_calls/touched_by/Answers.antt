use Rattle.std.proofs.Common.{◌≡◌, rules, sym, subst}
use Rattle.std.proofs.lemmas.List.{take_all}
use Rattle.quorum_credit.specs.Taken.{AreTouched}
use Rattle.quorum_credit.proofs.Touching.{HasTouched, touched-is}
use Rattle.quorum_credit.proofs.outer_calls.touched_by.Goals as goal

pub returns : goal.returns
returns c =
    let edits = c.args.edits.now in
    let units = c.loop-edit.units in
    let are : c.of.result ≡ units.keys = search rules in
    subst (AreTouched edits) (sym are)
    (touched-is edits units c.iter.ensures.ordered
    (subst (λ cs. HasTouched cs units) (take_all c.loop-edit.edit-index edits c.loop-edit-test.false) c.loop-edit.invariant))
