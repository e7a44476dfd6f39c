use Rattle.std.proofs.Common.{ap, sym, ◌∙◌}
use Rattle.std.specs.Option.{option_copied}
use Rattle.std.specs.Prelude.{Option, Some, None, IfSome}
use Rattle.sched_book.specs.Count.{decided}
use Rattle.sched_book.proofs.Counted.{decided_stays_put}
use Rattle.call_working_set.specs.UnitState.{UnitState}
use Rattle.call_working_set.proofs.SetRows.{row_got}
use Rattle.call_working_set.proofs.unit_state.UnitState.decided_with.Goals as goal

stays : {X : Type 0} (o : Option X) (P Q : X → Type 0) → ((x : X) → P x → Q x) → IfSome o P → IfSome o Q
stays None P Q same known = known
stays (Some x) P Q same known = same x known

pub returns-in-Some : goal.returns-in-Some
returns-in-Some c =
    let k = c.args.self.now in
    let number = c.args.number in
    stays c.self.inside.decided_now _ _
    (λ d is.
    is
    ∙ ap (λ (l : UnitState). decided l.agreement l.unit l.present) c.self.view_is
    ∙ sym (decided_stays_put k.present number c.in-Some.instance.now c.args.row.now k.agreement k.unit
    (sym (row_got c.present.result.now k.present number c.get.result c.get.ensures.lookup c.present.ensures.value ∙ ap option_copied c.in-Some.is))
    (c.counts_like.ensures.0 c.if-counts_like.true)))
    c.self.invariant.1
