-- What workunits need is of workunits that exist, and within their numbers.
use Rattle.std.proofs.Common.{◌≡◌, ℕ, zero, suc, ◌+◌, ◌<◌, ◌≤◌, Bool, true, false, cond, List, [], ◌∷◌, ◌++◌, length, Option, Some, None, sym, refl, subst, arith}
use Rattle.std.specs.Prelude.{All, IsSome, option_map, unwrap_or}
use Rattle.std.proofs.lemmas.List.Elements.{All-nil, All-cons, All-append}
use Rattle.sched_book.specs.Count.{need, is_open}
use Rattle.sched_book.specs.Limits.{most_instances}
use Rattle.sched_book.specs.Places.{unit_at, agreement_of, book_status}
use Rattle.sched_book.specs.Settle.{fresh}
use Rattle.sched_book.specs.declared.delta.Edit.TheVariants as edit
use Rattle.sched_book.specs.declared.instance.UnitBook.{UnitBook}
use Rattle.sched_book.specs.declared.world.World.{World}
use Rattle.call_working_set.specs.UnitState.{UnitState}
use Rattle.call_working_set.specs.WorkingSets.{IsOfKnown, IsReadAt, book_now}
use Rattle.quorum_credit.specs.Growing.{fresh_changes, growth_of, growth, all_growth}
use Rattle.quorum_credit.specs.Settling.{AreUnitsInLimits}
use Rattle.quorum_credit.proofs.GrownFits.{open_total}

-- a workunit that was read has at most as many instances as a workunit may have
pub total_within : (entry present : World) (unit : ℕ) (o : Option UnitState) (k : UnitState) → o ≡ Some k → IsReadAt entry present unit o → AreUnitsInLimits present
    → k.unit.max_total_results ≤ most_instances
total_within entry present unit None k is read limits = absurd cc
total_within entry present unit (Some j) k is read limits =
    let here : IsReadAt entry present unit (Some k) = subst (IsReadAt entry present unit) is read in
    (limits unit (book_now k) here.here).total.1

fresh_known : (w : World) (unit number count : ℕ) → IsSome (unit_at w unit) → number + count ≤ most_instances → All (IsOfKnown w) (fresh_changes unit number count)
fresh_known w unit number zero some few = All-nil (IsOfKnown w)
fresh_known w unit number (suc count) some few =
    All-cons (IsOfKnown w) (edit.Instance (record { unit = unit; number = number }) fresh) (fresh_changes unit (number + 1) count)
    (some, (let low : number < most_instances = omega arith in low))
    (fresh_known w unit (number + 1) count some (omega arith))

growth_known : (w : World) → AreUnitsInLimits w → (unit : ℕ) → All (IsOfKnown w) (growth w unit)
growth_known w limits unit = cases (unit_at w unit) refl
  where
    open_or_not : (b : UnitBook) → unit_at w unit ≡ Some b → (t : Bool) → is_open (book_status w.apps b) ≡ t
        → All (IsOfKnown w) (fresh_changes unit (length b.instances) (cond t (need b.unit b.instances) 0))
    open_or_not b here false is_it = All-nil (IsOfKnown w)
    open_or_not b here true is_it =
        let total : length b.instances + need b.unit b.instances ≤ b.unit.max_total_results = open_total (agreement_of w b) b.unit b.instances is_it in
        let most : b.unit.max_total_results ≤ most_instances = (limits unit b here).total.1 in
        fresh_known w unit (length b.instances) (need b.unit b.instances) (subst IsSome (sym here) refl) (omega arith)

    cases : (o : Option UnitBook) → unit_at w unit ≡ o → All (IsOfKnown w) (unwrap_or (option_map (growth_of w unit) o) [])
    cases None here = All-nil (IsOfKnown w)
    cases (Some b) here = open_or_not b here (is_open (book_status w.apps b)) refl

pub all_growth_known : (w : World) → AreUnitsInLimits w → (units : List ℕ) → All (IsOfKnown w) (all_growth w units)
all_growth_known w limits [] = All-nil (IsOfKnown w)
all_growth_known w limits (unit ∷ units) =
    All-append (IsOfKnown w) (growth w unit) (all_growth w units) (growth_known w limits unit) (all_growth_known w limits units)
