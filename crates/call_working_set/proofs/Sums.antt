-- Sums over numbers: over consecutive numbers, and over the numbers of a list in rising order.
use Rattle.std.proofs.Common.{◌≡◌, ℕ, zero, suc, ◌+◌, ◌≤◌, ◌<◌, Bool, true, false, eqb, List, [], ◌∷◌, length, sym, refl, ap, ◌∙◌, arith}
use Rattle.std.specs.Prelude.{◌||◌, option_map, slice_get, sum_by, unwrap_or}
use Rattle.std.proofs.lemmas.Bool.Decides.{nat_tests}
use Rattle.std.proofs.lemmas.List.Sums.{sum_by-cons}
use Rattle.call_working_set.specs.WorkingSets.{is_among, AreAbove, AreRising}

-- the sum of g over `count` numbers; n is the first
unfoldable pub sum_from : (ℕ → ℕ) → ℕ → ℕ → ℕ
sum_from g n zero = 0
sum_from g n (suc k) = g n + sum_from g (suc n) k

pub at_one : (g : ℕ → ℕ) (k : ℕ) → g 0 ≡ 0 → sum_from g 1 k ≡ sum_from g 0 (suc k)
unfolding sum_from
at_one g k first = let none : g 0 ≡ 0 = first in let sum : sum_from g 1 k ≡ g 0 + sum_from g 1 k = omega arith in sum

pub sum_from_plus : (g h : ℕ → ℕ) (n k : ℕ) → sum_from (λ i. g i + h i) n k ≡ sum_from g n k + sum_from h n k
unfolding sum_from
sum_from_plus g h n zero = refl
sum_from_plus g h n (suc k) =
    let rest : sum_from (λ i. g i + h i) (suc n) k ≡ sum_from g (suc n) k + sum_from h (suc n) k = sum_from_plus g h (suc n) k in
    let whole : g n + h n + sum_from (λ i. g i + h i) (suc n) k ≡ g n + sum_from g (suc n) k + (h n + sum_from h (suc n) k) = omega arith in
    whole

pub sum_from_zero : (g : ℕ → ℕ) (n k : ℕ) → ((i : ℕ) → g (n + i) ≡ 0) → sum_from g n k ≡ 0
unfolding sum_from
sum_from_zero g n zero none = refl
sum_from_zero g n (suc k) none =
    let here : g n ≡ 0 = ap g (let at : n ≡ n + 0 = omega arith in at) ∙ none 0 in
    let rest : sum_from g (suc n) k ≡ 0 = sum_from_zero g (suc n) k (λ i. ap g (let at : suc n + i ≡ n + suc i = omega arith in at) ∙ none (suc i)) in
    let whole : g n + sum_from g (suc n) k ≡ 0 = omega arith in
    whole

-- a sum over a list is one over its numbers and further ones
pub sum_listed : {X : Type 0} (f : X → ℕ) (g : ℕ → ℕ) (n : ℕ) (xs : List X) (more : ℕ)
    → ((i : ℕ) → g (n + i) ≡ unwrap_or (option_map f (slice_get xs i)) 0) → sum_from g n (length xs + more) ≡ sum_by f xs
unfolding sum_from
sum_listed f g n [] more same = sum_from_zero g n (0 + more) same
sum_listed f g n (x ∷ xs) more same =
    let here : g n ≡ f x = ap g (let at : n ≡ n + 0 = omega arith in at) ∙ same 0 in
    let rest : sum_from g (suc n) (length xs + more) ≡ sum_by f xs =
    sum_listed f g (suc n) xs more (λ i. ap g (let at : suc n + i ≡ n + suc i = omega arith in at) ∙ same (suc i)) in
    let whole : g n + sum_from g (suc n) (length xs + more) ≡ f x + sum_by f xs = omega arith in
    ap (sum_from g n) (let at : suc (length xs) + more ≡ suc (length xs + more) = omega arith in at) ∙ whole ∙ sym (sum_by-cons f x xs)

-- ---- numbers of a list in rising order

-- all of these are at least m
pub AreFrom : ℕ → List ℕ → Type 0
AreFrom m [] = Unit {0}
AreFrom m (n ∷ ns) = (m ≤ n) × AreFrom m ns

pub from_zero : (ns : List ℕ) → AreFrom 0 ns
unfolding AreFrom
from_zero [] = tt
from_zero (n ∷ ns) = (omega arith, from_zero ns)

from_above : (m n : ℕ) (ns : List ℕ) → m ≤ n → AreAbove n ns → AreFrom (suc m) ns
unfolding AreFrom
from_above m n [] low above = tt
from_above m n (k ∷ ns) low above = let here : n < k = above.0 in ((let less : suc m ≤ k = omega arith in less), from_above m n ns low above.1)

not_among : (m : ℕ) (ns : List ℕ) → AreFrom (suc m) ns → is_among ns m ≡ false
unfolding AreFrom
not_among m [] from = refl
not_among m (n ∷ ns) from =
    let here : suc m ≤ n = from.0 in
    let other : eqb n m ≡ false = grind (arith, nat_tests) in
    ap (λ b. b || is_among ns m) other ∙ not_among m ns from.1

all_zero : (g : ℕ → ℕ) (ns : List ℕ) (m : ℕ) → AreFrom m ns → ((n : ℕ) → m ≤ n → g n ≡ 0) → sum_by g ns ≡ 0
unfolding AreFrom
all_zero g [] m from none = refl
all_zero g (n ∷ ns) m from none =
    sum_by-cons g n ns ∙ ap (λ k. k + sum_by g ns) (none n from.0) ∙ ap (λ k. 0 + k) (all_zero g ns m from.1 none)

-- two functions that agree except at some places
module _ (g h : ℕ → ℕ) where
  pub differ : (k n : ℕ) (ns : List ℕ) → AreRising ns → AreFrom n ns → ((m : ℕ) → n ≤ m → is_among ns m ≡ false → g m ≡ h m)
      → ((m : ℕ) → n + k ≤ m → g m ≡ 0) → ((m : ℕ) → n + k ≤ m → h m ≡ 0) → sum_from g n k + sum_by h ns ≡ sum_from h n k + sum_by g ns
  unfolding sum_from AreFrom
  differ zero n ns rising from others none nothing =
      let left : sum_by h ns ≡ 0 = all_zero h ns n from (λ m far. nothing m (omega arith)) in
      let right : sum_by g ns ≡ 0 = all_zero g ns n from (λ m far. none m (omega arith)) in
      omega (arith, left, right)
  differ (suc k) n [] rising from others none nothing =
      let here : g n ≡ h n = others n (omega arith) refl in
      let rest : sum_from g (suc n) k + 0 ≡ sum_from h (suc n) k + 0 =
      differ k (suc n) [] tt tt (λ m far among. others m (omega arith) refl) (λ m far. none m (omega arith)) (λ m far. nothing m (omega arith)) in
      omega (arith, here, rest)
  differ (suc k) n (t ∷ ns) rising from others none nothing = cases (eqb t n) refl (differ k (suc n))
    where
      cases : (b : Bool) → eqb t n ≡ b
          → ((ms : List ℕ) → AreRising ms → AreFrom (suc n) ms → ((m : ℕ) → suc n ≤ m → is_among ms m ≡ false → g m ≡ h m)
          → ((m : ℕ) → suc n + k ≤ m → g m ≡ 0) → ((m : ℕ) → suc n + k ≤ m → h m ≡ 0) → sum_from g (suc n) k + sum_by h ms ≡ sum_from h (suc n) k + sum_by g ms)
          → g n + sum_from g (suc n) k + sum_by h (t ∷ ns) ≡ h n + sum_from h (suc n) k + sum_by g (t ∷ ns)
      cases true is later =
          let same : t ≡ n = grind (arith, nat_tests) in
          let rest : sum_from g (suc n) k + sum_by h ns ≡ sum_from h (suc n) k + sum_by g ns =
          later ns rising.1 (from_above n t ns from.0 rising.0)
          (λ m far among. others m (omega arith) (ap (λ c. c || is_among ns m) (let other : eqb t m ≡ false = grind (arith, nat_tests) in other) ∙ among))
          (λ m far. none m (omega arith)) (λ m far. nothing m (omega arith)) in
          let left : sum_by h (t ∷ ns) ≡ h n + sum_by h ns = sum_by-cons h t ns ∙ ap (λ j. h j + sum_by h ns) same in
          let right : sum_by g (t ∷ ns) ≡ g n + sum_by g ns = sum_by-cons g t ns ∙ ap (λ j. g j + sum_by g ns) same in
          omega (arith, rest, left, right)
      cases false is later =
          let low : n ≤ t = from.0 in
          let above : suc n ≤ t = grind (arith, nat_tests) in
          let all : AreFrom (suc n) (t ∷ ns) = (above, from_above n t ns low rising.0) in
          let here : g n ≡ h n = others n (omega arith) (not_among n (t ∷ ns) all) in
          let rest : sum_from g (suc n) k + sum_by h (t ∷ ns) ≡ sum_from h (suc n) k + sum_by g (t ∷ ns) =
          later (t ∷ ns) rising all (λ m far among. others m (omega arith) among) (λ m far. none m (omega arith)) (λ m far. nothing m (omega arith)) in
          omega (arith, here, rest)

-- a sum over all places is one over some, if it is 0 at the others
pub sum_of_some : (g : ℕ → ℕ) (k n : ℕ) (ns : List ℕ) → AreRising ns → AreFrom n ns → ((m : ℕ) → n ≤ m → is_among ns m ≡ false → g m ≡ 0)
    → ((m : ℕ) → n + k ≤ m → g m ≡ 0) → sum_from g n k ≡ sum_by g ns
sum_of_some g k n ns rising from others beyond =
    let whole : sum_from g n k + sum_by (λ m. 0) ns ≡ sum_from (λ m. 0) n k + sum_by g ns = differ g (λ m. 0) k n ns rising from others beyond (λ m far. refl) in
    let left : sum_by (λ m. 0) ns ≡ 0 = all_zero (λ m. 0) ns n from (λ m low. refl) in
    let right : sum_from (λ m. 0) n k ≡ 0 = sum_from_zero (λ m. 0) n k (λ i. refl) in
    omega (arith, whole, left, right)
