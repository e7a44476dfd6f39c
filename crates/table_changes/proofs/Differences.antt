-- The sums over two lists differ by the values at the places where the lists differ.
use Rattle.std.proofs.Common.{◌≡◌, ℕ, zero, suc, ◌+◌, ◌<◌, true, false, eqb, List, [], ◌∷◌, length, option_map, sym, refl, ap, ◌∙◌, arith}
use Rattle.std.specs.Prelude.{◌||◌, sum_by, unwrap_or}
use Rattle.std.proofs.lemmas.Bool.{or_right}
use Rattle.std.proofs.lemmas.Bool.Decides.{nat_tests}
use Rattle.std.proofs.lemmas.List.Sums.{sum_by-cons}
use Rattle.std.proofs.lemmas.Option.{slice_get_past}
use Rattle.sched_book.specs.Places.{nth}
use Rattle.sched_book.proofs.PlacesOf.{nth-suc}
use Rattle.call_working_set.specs.WorkingSets.{AreRising, is_among}
use Rattle.call_working_set.proofs.Sums.{sum_from, sum_listed, from_zero, differ}

-- what `f` gives at a place of a list
abbrev pub at_place : {X : Type 0} → (X → ℕ) → List X → ℕ → ℕ
at_place f xs n = unwrap_or (option_map f (nth xs n)) 0

module _ {X : Type 0} (f : X → ℕ) where
  none_past : (xs : List X) (m : ℕ) → length xs < m → at_place f xs m ≡ 0
  none_past xs zero far = absurd (omega (arith, far))
  none_past xs (suc i) far = ap (λ o. unwrap_or (option_map f o) 0) (nth-suc xs i ∙ slice_get_past xs i (omega (arith, far)))

  from_places : (xs : List X) (more : ℕ) → sum_by f xs ≡ sum_from (at_place f xs) 0 (suc (length xs + more))
  unfolding sum_from
  from_places xs more =
      let all : sum_from (at_place f xs) 1 (length xs + more) ≡ sum_by f xs =
      sum_listed f (at_place f xs) 1 xs more (λ i. ap (at_place f xs) (let at : 1 + i ≡ suc i = omega arith in at) ∙ ap (λ o. unwrap_or (option_map f o) 0) (nth-suc xs i)) in
      omega (arith, all)

  -- by the places at which the lists differ
  pub sums_differ : (xs ys : List X) (ns : List ℕ) → AreRising ns → ((m : ℕ) → is_among ns m ≡ false → nth xs m ≡ nth ys m)
      → sum_by f xs + sum_by (at_place f ys) ns ≡ sum_by f ys + sum_by (at_place f xs) ns
  sums_differ xs ys ns rising same =
      let k = length xs + length ys in
      let left : sum_by f xs ≡ sum_from (at_place f xs) 0 (suc k) = from_places xs (length ys) in
      let right : sum_by f ys ≡ sum_from (at_place f ys) 0 (suc k) =
      from_places ys (length xs) ∙ ap (λ n. sum_from (at_place f ys) 0 (suc n)) (let same : length ys + length xs ≡ k = omega arith in same) in
      let both : sum_from (at_place f xs) 0 (suc k) + sum_by (at_place f ys) ns ≡ sum_from (at_place f ys) 0 (suc k) + sum_by (at_place f xs) ns =
      differ (at_place f xs) (at_place f ys) (suc k) 0 ns rising (from_zero ns) (λ m low among. ap (λ o. unwrap_or (option_map f o) 0) (same m among))
      (λ m far. none_past xs m (omega (arith, far))) (λ m far. none_past ys m (omega (arith, far))) in
      omega (arith, left, right, both)

-- sums over the same numbers of functions that agree on them
pub same_among : (g h : ℕ → ℕ) (ns : List ℕ) → ((m : ℕ) → is_among ns m ≡ true → g m ≡ h m) → sum_by g ns ≡ sum_by h ns
same_among g h [] same = refl
same_among g h (n ∷ ns) same =
    sum_by-cons g n ns
    ∙ ap (λ k. k + sum_by g ns) (same n (ap (λ b. b || is_among ns n) (let here : eqb n n ≡ true = grind (arith, nat_tests) in here)))
    ∙ ap (λ k. h n + k) (same_among g h ns (λ m among. same m (or_right (eqb n m) _ among)))
    ∙ sym (sum_by-cons h n ns)
