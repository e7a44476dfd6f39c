-- The places in a set are in rising order, and are those that were added.
use Rattle.std.proofs.Common.{◌≡◌, ℕ, Bool, eqb, List, [], ◌∷◌, sym, refl, ap₂, ◌∙◌}
use Rattle.std.specs.Prelude.{◌||◌}
use Rattle.std.specs.BTreeSet.{BTreeSet, IsOrdered, contains}
use Rattle.std.specs.List.{list_any}
use Rattle.std.specs.Ordering.{nat_cmp, is_eq}
use Rattle.sched_book.specs.declared.delta.Edit.{Edit}
use Rattle.call_working_set.proofs.UnitStates.{same, rising}
use Rattle.quorum_credit.specs.Taken.{touches, AreTouched}

among : (unit : ℕ) (ns : List ℕ) → list_any (λ n. is_eq (nat_cmp unit n)) ns ≡ list_any (λ n. eqb n unit) ns
among unit [] = refl
among unit (n ∷ ns) = ap₂ (λ (a b : Bool). a || b) (same unit n) (among unit ns)

-- the set has exactly the workunits that the changes touch
abbrev pub HasTouched : List Edit → BTreeSet ℕ → Type 0
HasTouched cs units = (unit : ℕ) → contains nat_cmp units unit ≡ list_any (touches unit) cs

pub touched-is : (cs : List Edit) (units : BTreeSet ℕ) → IsOrdered nat_cmp units → HasTouched cs units → AreTouched cs units.keys
touched-is cs units ordered has = record {
  rising = rising units.keys ordered;
  just = λ unit. sym (among unit units.keys) ∙ has unit;
}
