use Rattle.std.proofs.Common.{◌≡◌, ◌+◌, ◌++◌, [], ◌∷◌, length, subst}
use Rattle.sched_book.specs.declared.delta.Edit.TheVariants as edit
use Rattle.sched_book.specs.declared.instance.Instance.{Instance}
use Rattle.sched_book.specs.declared.instance.Place.{Place}
use Rattle.quorum_credit.proofs.FreshOnes.{fresh_step}
use Rattle.quorum_credit.proofs.growth.push_growth.Goals as goal

pub loop-number-preserved : goal.loop-number-preserved
loop-number-preserved c =
    let place : Place = record { unit = c.args.unit; number = c.loop-number.number } in
    fresh_step c.loop-number.more c.push.new.self _ c.args.unit c.loop-number.number (length c.present-instances.result.now + c.new_instances_on-count.result)
    c.loop-number-test.true
    (subst (λ (x : Instance). c.push.new.self ≡ c.loop-number.more ++ edit.Instance place x ∷ []) c.unsent.ensures c.in_ok-push.ensures.ok)
    c.loop-number.invariant
