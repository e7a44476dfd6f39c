-- The keys of a map are in rising order, and are those at which something is found.
use Rattle.std.proofs.Common.{◌≡◌, ℕ, ◌<◌, Bool, true, false, cond, eqb, lit<, List, [], ◌∷◌, Some, Less, IfOk, Ok, Err, Result, Vec, Global, sym, refl, ap, ◌∙◌, subst, arith}
use Rattle.std.proofs.lemmas.Bool.Decides.{nat_tests}
use Rattle.std.proofs.lemmas.Map.Keys.{below_from_sorted}
use Rattle.std.specs.Prelude.{is_some, ◌||◌}
use Rattle.std.specs.BTreeMap.{BTreeMap, get, is_at, keys, IsOrdered}
use Rattle.std.specs.Cmp.{unsigned_tied}
use Rattle.std.specs.List.{list_any, AllByRecursion}
use Rattle.std.specs.List.Sorted.{IsStrictlySortedBy}
use Rattle.std.specs.Map.{lookup, keys_of}
use Rattle.std.specs.Ordering.{nat_cmp, is_eq}
use Rattle.call_working_set.specs.UnitState.{UnitState}
use Rattle.call_working_set.specs.WorkingSets.{AreAbove, AreRising, AreAllOf}

-- what comes first in the order is less
less : (m n : ℕ) → nat_cmp m n ≡ Less → m < n
unfolding IsStrictlySortedBy
less m n is = below_from_sorted (m ∷ n ∷ []) 0 1 0 ((is, tt), (tt, tt)) (lit< tt) (lit< tt)

-- equal in the order means the same number
pub same : (m n : ℕ) → is_eq (nat_cmp m n) ≡ eqb n m
same m n = unsigned_tied m n ∙ (let turned : eqb m n ≡ eqb n m = grind (arith, nat_tests) in turned)

above : (m : ℕ) (ns : List ℕ) → AllByRecursion (λ n. nat_cmp m n ≡ Less) ns → AreAbove m ns
above m [] below = tt
above m (n ∷ ns) below = (less m n below.0, above m ns below.1)

-- in a strictly sorted list each number is less than all after it
pub rising : (ns : List ℕ) → IsStrictlySortedBy nat_cmp ns → AreRising ns
unfolding IsStrictlySortedBy
rising [] sorted = tt
rising (n ∷ ns) sorted = (above n ns sorted.0, rising ns sorted.1)

-- something is found exactly at the keys
among : {X : Type 0} (unit : ℕ) (es : List (ℕ × X)) → is_some (lookup (is_at (nat_cmp unit)) es) ≡ list_any (λ n. eqb n unit) (keys_of es)
among unit [] = refl
among {X} unit (e ∷ es) = cases (among unit es) (eqb e.0 unit) (same unit e.0)
  where
    cases : is_some (lookup (is_at (nat_cmp unit)) es) ≡ list_any (λ n. eqb n unit) (keys_of es) → (b : Bool) → is_eq (nat_cmp unit e.0) ≡ b
        → is_some (cond (is_eq (nat_cmp unit e.0)) (Some e.1) (lookup (is_at (nat_cmp unit)) es)) ≡ (b || list_any (λ n. eqb n unit) (keys_of es))
    cases rest true is = ap (λ (b : Bool). is_some (cond b (Some e.1) (lookup (is_at (nat_cmp unit)) es))) is
    cases rest false is = ap (λ (b : Bool). is_some (cond b (Some e.1) (lookup (is_at (nat_cmp unit)) es))) is ∙ rest

keys_are_all : (m : BTreeMap ℕ UnitState) (units : List ℕ) → IsOrdered nat_cmp m → units ≡ keys m → AreAllOf (get nat_cmp m) units
keys_are_all m units ordered are = record {
  rising = subst AreRising (sym are) (rising (keys m) ordered);
  all = λ unit. among unit m.entries ∙ ap (list_any (λ n. eqb n unit)) (sym are);
}

-- the keys that were collected, if there was enough memory
pub collected : {E : Type 0} (m : BTreeMap ℕ UnitState) (r : Result (Vec ℕ Global) E) → IsOrdered nat_cmp m → IfOk r (λ v. v.items ≡ keys m)
    → IfOk r (λ v. AreAllOf (get nat_cmp m) v.items)
collected m (Ok v) ordered are = keys_are_all m v.items ordered are
collected m (Err e) ordered are = tt
