-- Lists of numbers in rising order, and facts about each two elements of a list.
use Rattle.std.proofs.Common.{◌≡◌, ℕ, zero, suc, ◌+◌, ◌<◌, ◌≤◌, List, [], ◌∷◌, map, subst, arith}
use Rattle.std.specs.Prelude.{All, AllPairs}
use Rattle.std.proofs.lemmas.List.Elements.{All-nil, All-cons, All-weaker}
use Rattle.std.proofs.lemmas.List.Kept.{AllPairs-cons}

-- a fact about each two elements holds of the first and each later one, and of each two later ones
pub pairs_head : {X : Type 0} (R : X → X → Type 0) (x : X) (xs : List X) → AllPairs R (x ∷ xs) → All (R x) xs
pairs_head R x xs all k d within = all zero (suc k) d (omega arith) (omega arith)

pub pairs_tail : {X : Type 0} (R : X → X → Type 0) (x : X) (xs : List X) → AllPairs R (x ∷ xs) → AllPairs R xs
pairs_tail R x xs all i j d less within = all (suc i) (suc j) d (omega arith) (omega arith)

pub pairs_nil : {X : Type 0} (R : X → X → Type 0) → AllPairs R []
pairs_nil R i j d less within = absurd (omega arith)

-- a list that rises, with numbers of at least `low`
abbrev pub RisesFrom : ℕ → List ℕ → Type 0
RisesFrom low [] = Unit {0}
RisesFrom low (i ∷ is) = (low ≤ i) × RisesFrom (i + 1) is

pub rises_lower : (low high : ℕ) (is : List ℕ) → low ≤ high → RisesFrom high is → RisesFrom low is
rises_lower low high [] less rises = tt
rises_lower low high (i ∷ is) less rises = ((let least : high ≤ i = rises.0 in omega arith), rises.1)

pub rises_next : (low : ℕ) (is : List ℕ) → RisesFrom low is → RisesFrom (low + 1) (map suc is)
rises_next low [] rises = tt
rises_next low (i ∷ is) rises = (
  (let least : low ≤ i = rises.0 in omega arith),
  subst (λ n. RisesFrom n (map suc is)) (let same : i + 1 + 1 ≡ suc i + 1 = omega arith in same) (rises_next (i + 1) is rises.1),
)

rises_above : (low : ℕ) (is : List ℕ) → RisesFrom low is → All (λ i. low ≤ i) is
rises_above low [] rises = All-nil (λ i. low ≤ i)
rises_above low (i ∷ is) rises =
    let least : low ≤ i = rises.0 in
    All-cons (λ j. low ≤ j) i is least
    (All-weaker (λ j. i + 1 ≤ j) (λ j. low ≤ j) (λ j more. omega arith) is (rises_above (i + 1) is rises.1))

pub rises_in_pairs : (low : ℕ) (is : List ℕ) → RisesFrom low is → AllPairs (λ i j. i < j) is
rises_in_pairs low [] rises = pairs_nil (λ i j. i < j)
rises_in_pairs low (i ∷ is) rises =
    AllPairs-cons (λ i j. i < j) i is
    (All-weaker (λ j. i + 1 ≤ j) (λ j. i < j) (λ j more. omega arith) is (rises_above (i + 1) is rises.1))
    (rises_in_pairs (i + 1) is rises.1)
