-- The items at the places of a list.
use Rattle.std.proofs.Common.{◌≡◌, ℕ, zero, suc, ◌+◌, List, Some, sym, ap, subst, ◌∙◌}
use Rattle.std.specs.Prelude.{All, slice_get}
use Rattle.std.proofs.lemmas.List.Elements.{All-get_or}
use Rattle.std.proofs.lemmas.Option.{none-some, slice_get_within, get_or_from_slice_get}
use Rattle.std.proofs.Math.Numerals.{add-one}
use Rattle.sched_book.specs.Places.{nth}
use Rattle.sched_book.proofs.PlacesOf.{nth-suc}

-- the item at the place after an index
pub nth_next : {X : Type 0} (xs : List X) (i : ℕ) → nth xs (i + 1) ≡ slice_get xs i
nth_next xs i = ap (nth xs) (add-one i) ∙ nth-suc xs i

-- what holds for all items of a list holds for the item at an index
pub all_got : {X : Type 0} (P : X → Type 0) (xs : List X) (i : ℕ) (x : X) → slice_get xs i ≡ Some x → All P xs → P x
all_got P xs i x is all = subst P (get_or_from_slice_get xs i x x is) (All-get_or P xs i x (slice_get_within xs i x is) all)

-- and for the item at a place
pub all_nth : {X : Type 0} (P : X → Type 0) (xs : List X) (n : ℕ) (x : X) → nth xs n ≡ Some x → All P xs → P x
all_nth P xs zero x is all = absurd (none-some x is)
all_nth P xs (suc i) x is all = all_got P xs i x (sym (nth-suc xs i) ∙ is) all
