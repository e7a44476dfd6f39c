-- Lists by the element at each place, counted from 1.
use Rattle.std.proofs.Common.{◌≡◌, ℕ, suc, ◌-◌, Bool, true, false, cond, eqb, List, [], ◌∷◌, Some, None, sym, refl, ap, ◌∙◌, subst}
use Rattle.std.specs.Prelude.{All, map, option_map, slice_get}
use Rattle.std.specs.List.{enumerate_from}
use Rattle.std.proofs.lemmas.Option.{slice_get_within, get_or_from_slice_get}
use Rattle.sched_book.specs.Places.{nth}
use Rattle.sched_book.proofs.PlacesOf.{nth-suc}
use Rattle.sched_book.proofs.Settling.{nth-map, nth-enumerate_from, twice}

-- what holds of each element holds of the one at an index, and of the one at a place
pub all_get : {X : Type 0} (P : X → Type 0) (xs : List X) (i : ℕ) (x : X) → All P xs → slice_get xs i ≡ Some x → P x
all_get P xs i x all is = subst P (get_or_from_slice_get xs i x x is) (all i x (slice_get_within xs i x is))

pub all_nth : {X : Type 0} (P : X → Type 0) (xs : List X) (n : ℕ) (x : X) → All P xs → nth xs n ≡ Some x → P x
all_nth {X} P xs n x all is = cases (eqb n 0) is
  where
    cases : (b : Bool) → cond b None (slice_get xs (n - 1)) ≡ Some x → P x
    cases true none = absurd cc
    cases false there = all_get P xs (n - 1) x all there

-- lists with the same element at each place are equal
pub same_by_index : {X : Type 0} (xs ys : List X) → ((i : ℕ) → slice_get xs i ≡ slice_get ys i) → xs ≡ ys
same_by_index [] [] same = refl
same_by_index [] (y ∷ ys) same = let other : None ≡ Some y = same 0 in absurd cc
same_by_index (x ∷ xs) [] same = let other : Some x ≡ None = same 0 in absurd cc
same_by_index (x ∷ xs) (y ∷ ys) same =
    let first : Some x ≡ Some y = same 0 in
    let head : x ≡ y = cc in
    let tail : xs ≡ ys = same_by_index xs ys (λ i. same (suc i)) in
    ap (λ z. z ∷ xs) head ∙ ap (λ zs. y ∷ zs) tail

pub same_by_place : {X : Type 0} (xs ys : List X) → ((n : ℕ) → nth xs n ≡ nth ys n) → xs ≡ ys
same_by_place xs ys same = same_by_index xs ys (λ i. sym (nth-suc xs i) ∙ same (suc i) ∙ nth-suc ys i)

-- a function of each row and its place
pub nth-map_places : {X Y : Type 0} (f : ℕ × X → Y) (xs : List X) (n : ℕ) → nth (map f (enumerate_from 1 xs)) n ≡ option_map (λ x. f (n, x)) (nth xs n)
nth-map_places f xs n = nth-map f (enumerate_from 1 xs) n ∙ ap (option_map f) (nth-enumerate_from xs n) ∙ twice f (λ x. (n, x)) (nth xs n)
