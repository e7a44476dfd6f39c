-- Places in lists: the first that passes a test, and what a change at its place leaves.
use Rattle.std.proofs.Common.{◌≡◌, ℕ, zero, suc, ◌+◌, Bool, true, false, cond, List, [], ◌∷◌, ◌++◌, map, Some, slice_get, sym, refl, ap, ◌∙◌, arith}
use Rattle.std.specs.List.{position_from}
use Rattle.sched_book.specs.Places.{place_where}
use Rattle.sched_book.specs.Reports.{modify_at, modify_nth}
use Rattle.sched_book.proofs.PlacesOf.{place_where-is, modify_nth-suc, found_from, FoundFrom}

pub found : {X : Type 0} (p : X → Bool) (xs : List X) (n : ℕ) → place_where p xs ≡ Some n → FoundFrom p 1 xs n
found p xs n is = found_from p 1 xs n (sym (place_where-is p xs) ∙ is)

-- a change that a function does not see: at one index, and in the whole list
pub map-changed_here : {X Y : Type 0} (g : X → Y) (f : X → X) (xs : List X) (i : ℕ) (x : X) → slice_get xs i ≡ Some x → g (f x) ≡ g x
    → map g (modify_at f xs i) ≡ map g xs
map-changed_here g f [] i x there same = refl
map-changed_here g f (y ∷ ys) zero x there same =
    let is : y ≡ x = cc in ap (λ z. z ∷ map g ys) (ap (λ z. g (f z)) is ∙ same ∙ ap g (sym is))
map-changed_here g f (y ∷ ys) (suc i) x there same = ap (λ zs. g y ∷ zs) (map-changed_here g f ys i x there same)

-- a change at the place of the first item that passes
pub map-changed_found : {X Y : Type 0} (g : X → Y) (f : X → X) (p : X → Bool) → ((x : X) → p x ≡ true → g (f x) ≡ g x) → (xs : List X) (n : ℕ)
    → place_where p xs ≡ Some n → map g (modify_nth f xs n) ≡ map g xs
map-changed_found g f p same xs n is =
    let at : FoundFrom p 1 xs n = found p xs n is in
    let place : n ≡ suc at.0 = omega (arith, at.2) in
    ap (λ k. map g (modify_nth f xs k)) place ∙ ap (map g) (modify_nth-suc f xs at.0)
    ∙ map-changed_here g f xs at.0 at.1 at.3 (same at.1 at.4)

-- the first item that passes is still the first if more are added after it
pub position-more : {X : Type 0} (p : X → Bool) (m : ℕ) (xs ys : List X) (n : ℕ) → position_from p m xs ≡ Some n → position_from p m (xs ++ ys) ≡ Some n
position-more p m [] ys n is = absurd cc
position-more p m (x ∷ xs) ys n is = cases (p x) is (position-more p (m + 1) xs ys n)
  where
    cases : (b : Bool) → cond b (Some m) (position_from p (m + 1) xs) ≡ Some n
        → (position_from p (m + 1) xs ≡ Some n → position_from p (m + 1) (xs ++ ys) ≡ Some n)
        → cond b (Some m) (position_from p (m + 1) (xs ++ ys)) ≡ Some n
    cases true is later = is
    cases false is later = later is

pub place-more : {X : Type 0} (p : X → Bool) (xs ys : List X) (n : ℕ) → place_where p xs ≡ Some n → place_where p (xs ++ ys) ≡ Some n
place-more p xs ys n is = place_where-is p (xs ++ ys) ∙ position-more p 1 xs ys n (sym (place_where-is p xs) ∙ is)

-- the first item that passes one test is the first that passes another, under a function
pub position-map : {X Y : Type 0} (g : X → Y) (p : X → Bool) (q : Y → Bool) → ((x : X) → p x ≡ q (g x)) → (m : ℕ) (xs : List X)
    → position_from p m xs ≡ position_from q m (map g xs)
position-map g p q same m [] = refl
position-map g p q same m (x ∷ xs) = λ i. cond (same x i) (Some m) (position-map g p q same (m + 1) xs i)
