-- Rule. Where no candidate need be offered.
use Rattle.std.specs.Prelude.{ℕ, Bool, not, ◌&&◌, nat_lt, if◌then◌else◌, List, [], ◌∷◌, ◌++◌, fold, length, IsTrue}
use Rattle.std.specs.List.{list_any}
use Rattle.sched_book.specs.Places.{is_before, is_same}
use Rattle.sched_book.specs.declared.desk.Candidate.{Candidate}
use Rattle.sched_book.specs.declared.instance.Place.{Place}

-- a place, and the places before it at which an instance came to wait since
pub record SkipPlaces : Type 0 where
  pub place : Place
  pub came : List Place

-- Before this place there is no other.
abbrev pub least_place : Place
least_place = record { unit = 0; number = 0 }

-- the skip that covers nothing
abbrev pub no_skip : SkipPlaces
no_skip = record { place = least_place; came = [] }

-- A skip covers a place before its own, unless an instance came to wait there since.
abbrev pub covers : SkipPlaces → Place → Bool
covers f p = is_before p f.place && not (list_any (is_same p) f.came)

-- the candidate need not be offered
abbrev pub IsCovered : SkipPlaces → Candidate → Type 0
IsCovered f c = IsTrue (covers f c.place)

-- the most places that a skip lists
abbrev pub most_came : ℕ
most_came = 64

-- The skip after an instance came to wait at a place: if it covers the place, it lists it. With too many of them it covers nothing.
abbrev pub with_came : SkipPlaces → Place → SkipPlaces
with_came f p =
    if covers f p
    then (if nat_lt (length f.came) most_came then record { place = f.place; came = f.came ++ p ∷ [] } else no_skip)
    else f

-- the skip after nothing new was found before this place
abbrev pub raised : SkipPlaces → Place → SkipPlaces
raised f place = if is_before place f.place then f else record { place = place; came = [] }

-- the earlier one of two places, if the second is not before `from`
abbrev pub nearer : Place → Place → Place → Place
nearer from next p = if not (is_before p from) && is_before p next then p else next

-- the first of these places that is not before `from`, if it is before `until`, and else `until`
abbrev pub first_listed : Place → Place → List Place → Place
first_listed from = fold (nearer from)
