-- Two lists, in which each element has a relation to the element at its place in the other.
use Rattle.std.proofs.Common.{◌≡◌, ℕ, zero, suc, ◌+◌, ◌-◌, Bool, true, false, cond, eqb, List, [], ◌∷◌, Option, Some, None, sym, refl, ap, ◌∙◌, subst}
use Rattle.std.specs.Prelude.{◌||◌, All, map, sum_by, slice_get}
use Rattle.std.specs.List.{list_any}
use Rattle.std.proofs.lemmas.List.Elements.{All-head, All-tail}
use Rattle.std.proofs.lemmas.List.Sums.{sum_by-cons}
use Rattle.sched_book.specs.Places.{nth}
use Rattle.sched_book.proofs.PlacesOf.{nth-suc}

abbrev pub Along : {X : Type 0} → (X → X → Type 0) → List X → List X → Type 0
Along R [] [] = Unit {0}
Along R [] (y ∷ ys) = ⊥
Along R (x ∷ xs) [] = ⊥
Along R (x ∷ xs) (y ∷ ys) = R x y × Along R xs ys

-- the elements at a place of each list are related, or there is none in both
abbrev pub Both : {X : Type 0} → (X → X → Type 0) → Option X → Option X → Type 0
Both R None None = Unit {0}
Both R None (Some y) = ⊥
Both R (Some x) None = ⊥
Both R (Some x) (Some y) = R x y

along_from : {X : Type 0} (R : X → X → Type 0) (xs ys : List X) → ((i : ℕ) → Both R (slice_get xs i) (slice_get ys i)) → Along R xs ys
along_from R [] [] both = tt
along_from R [] (y ∷ ys) both = absurd (both 0)
along_from R (x ∷ xs) [] both = absurd (both 0)
along_from R (x ∷ xs) (y ∷ ys) both = (both 0, along_from R xs ys (λ i. both (suc i)))

pub along_places : {X : Type 0} (R : X → X → Type 0) (xs ys : List X) → ((n : ℕ) → Both R (nth xs n) (nth ys n)) → Along R xs ys
along_places R xs ys both =
    along_from R xs ys (λ i. subst (λ o. Both R o (slice_get ys i)) (nth-suc xs i) (subst (Both R (nth xs (suc i))) (nth-suc ys i) (both (suc i))))

-- a function of each element of the second list
pub along_map : {X : Type 0} (P : X → Type 0) (R Q : X → X → Type 0) (g : X → X) → ((x y : X) → P x → R x y → Q x (g y))
    → (xs ys : List X) → All P xs → Along R xs ys → Along Q xs (map g ys)
along_map P R Q g makes [] [] all along = tt
along_map P R Q g makes [] (y ∷ ys) all along = absurd along
along_map P R Q g makes (x ∷ xs) [] all along = absurd along
along_map P R Q g makes (x ∷ xs) (y ∷ ys) all along =
    (makes x y (All-head P x xs all) along.0, along_map P R Q g makes xs ys (All-tail P x xs all) along.1)

-- a function of the elements at a place that agrees on related ones
along_get : {X Y : Type 0} (R : X → X → Type 0) (F G : Option X → Y) → G None ≡ F None → ((x y : X) → R x y → G (Some y) ≡ F (Some x))
    → (xs ys : List X) (i : ℕ) → Along R xs ys → G (slice_get ys i) ≡ F (slice_get xs i)
along_get R F G none some [] [] i along = none
along_get R F G none some [] (y ∷ ys) i along = absurd along
along_get R F G none some (x ∷ xs) [] i along = absurd along
along_get R F G none some (x ∷ xs) (y ∷ ys) zero along = some x y along.0
along_get R F G none some (x ∷ xs) (y ∷ ys) (suc i) along = along_get R F G none some xs ys i along.1

pub along_nth : {X Y : Type 0} (R : X → X → Type 0) (F G : Option X → Y) → G None ≡ F None → ((x y : X) → R x y → G (Some y) ≡ F (Some x))
    → (xs ys : List X) (n : ℕ) → Along R xs ys → G (nth ys n) ≡ F (nth xs n)
along_nth R F G none some xs ys n along = cases (eqb n 0)
  where
    cases : (b : Bool) → G (cond b None (slice_get ys (n - 1))) ≡ F (cond b None (slice_get xs (n - 1)))
    cases true = none
    cases false = along_get R F G none some xs ys (n - 1) along

-- the sums are the same if each pair has the same value
pub along_sum : {X : Type 0} (R : X → X → Type 0) (f : X → ℕ) → ((x y : X) → R x y → f y ≡ f x)
    → (xs ys : List X) → Along R xs ys → sum_by f ys ≡ sum_by f xs
along_sum R f same [] [] along = refl
along_sum R f same [] (y ∷ ys) along = absurd along
along_sum R f same (x ∷ xs) [] along = absurd along
along_sum R f same (x ∷ xs) (y ∷ ys) along =
    sum_by-cons f y ys
    ∙ ap (λ n. n + sum_by f ys) (same x y along.0)
    ∙ ap (λ n. f x + n) (along_sum R f same xs ys along.1)
    ∙ sym (sum_by-cons f x xs)

-- two tests that agree on each element, or one of which implies the other
pub any_same : {X : Type 0} (P : X → Type 0) (p q : X → Bool) → ((x : X) → P x → p x ≡ q x) → (xs : List X) → All P xs
    → list_any p xs ≡ list_any q xs
any_same P p q same [] all = refl
any_same P p q same (x ∷ xs) all =
    ap (λ b. b || list_any p xs) (same x (All-head P x xs all)) ∙ ap (λ b. q x || b) (any_same P p q same xs (All-tail P x xs all))

pub any_implied : {X : Type 0} (p q : X → Bool) → ((x : X) → p x ≡ true → q x ≡ true) → (xs : List X) → list_any p xs ≡ true → list_any q xs ≡ true
any_implied p q also [] found = found
any_implied p q also (x ∷ xs) found = cases (p x) refl (any_implied p q also xs) found
  where
    cases : (b : Bool) → p x ≡ b → (list_any p xs ≡ true → list_any q xs ≡ true) → (b || list_any p xs) ≡ true → (q x || list_any q xs) ≡ true
    cases true is rest passes = ap (λ b. b || list_any q xs) (also x is)
    cases false is rest passes = either (q x) (rest passes)
      where
        either : (b : Bool) → list_any q xs ≡ true → (b || list_any q xs) ≡ true
        either true there = refl
        either false there = there
