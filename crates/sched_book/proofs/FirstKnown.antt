-- The first row whose name exists: it is the first, and if there is none, all names are new.
use Rattle.std.proofs.Common.{◌≡◌, ℕ, ◌+◌, Bool, true, false, cond, List, [], ◌∷◌, ◌++◌, length, Option, Some, None, MatchOption, sym, refl, ap, ◌∙◌, arith, append_assoc, append-nil}
use Rattle.std.specs.List.{list_any}
use Rattle.sched_book.specs.Imports.{first_known, same_account, same_app, same_version, same_unit}
use Rattle.sched_book.specs.Laws.{HaveNewNames, IsFirstKnown, FindsFirstKnown, FirstKnownIsFirst}

module _ {X : Type 0} (same : X → X → Bool) where
  -- the same, if the first row has the place `from`
  record IsFirstFrom (from : ℕ) (known rows : List X) (place : ℕ) : Type 0 where
    earlier : List X
    row : X
    later : List X
    split : rows ≡ earlier ++ row ∷ later
    at_place : place ≡ length earlier + from
    known_name : list_any (same row) (known ++ earlier) ≡ true
    none_before : HaveNewNames same known earlier

  nothing_new : (known : List X) → HaveNewNames same known []
  nothing_new known [] row later split = absurd cc
  nothing_new known (y ∷ ys) row later split = absurd cc

  -- one row in front whose name is new
  one_more : (known : List X) (x : X) (rows : List X) → list_any (same x) known ≡ false → HaveNewNames same (known ++ x ∷ []) rows
      → HaveNewNames same known (x ∷ rows)
  one_more known x rows new rest [] row later split =
      let here : row ≡ x = cc in
      ap (λ z. list_any (same z) (known ++ [])) here ∙ ap (list_any (same x)) (append-nil known) ∙ new
  one_more known x rows new rest (y ∷ ys) row later split =
      let here : y ≡ x = cc in
      let tail : rows ≡ ys ++ row ∷ later = cc in
      ap (λ z. list_any (same row) (known ++ z ∷ ys)) here
      ∙ ap (list_any (same row)) (sym (append_assoc known (x ∷ []) ys))
      ∙ rest ys row later tail

  finds_from : (from : ℕ) (known rows : List X)
      → MatchOption (first_known same from known rows) (HaveNewNames same known rows) (IsFirstFrom from known rows)
  finds_from from known [] = nothing_new known
  finds_from from known (x ∷ xs) = cases (list_any (same x) known) refl (first_known same (from + 1) (known ++ x ∷ []) xs) (finds_from (from + 1) (known ++ x ∷ []) xs)
    where
      further : list_any (same x) known ≡ false → (o : Option ℕ)
          → MatchOption o (HaveNewNames same (known ++ x ∷ []) xs) (IsFirstFrom (from + 1) (known ++ x ∷ []) xs)
          → MatchOption o (HaveNewNames same known (x ∷ xs)) (IsFirstFrom from known (x ∷ xs))
      further new None rest = one_more known x xs new rest
      further new (Some place) f = record {
        earlier = x ∷ f.earlier;
        row = f.row;
        later = f.later;
        split = ap (λ zs. x ∷ zs) f.split;
        at_place = (let before : place ≡ length f.earlier + (from + 1) = f.at_place in omega (arith, before));
        known_name = ap (list_any (same f.row)) (sym (append_assoc known (x ∷ []) f.earlier)) ∙ f.known_name;
        none_before = one_more known x f.earlier new f.none_before;
      }

      cases : (b : Bool) → list_any (same x) known ≡ b → (o : Option ℕ)
          → MatchOption o (HaveNewNames same (known ++ x ∷ []) xs) (IsFirstFrom (from + 1) (known ++ x ∷ []) xs)
          → MatchOption (cond b (Some from) o) (HaveNewNames same known (x ∷ xs)) (IsFirstFrom from known (x ∷ xs))
      cases true is o rest = record {
        earlier = [];
        row = x;
        later = xs;
        split = refl;
        at_place = (let here : from ≡ 0 + from = omega arith in here);
        known_name = ap (list_any (same x)) (append-nil known) ∙ is;
        none_before = nothing_new known;
      }
      cases false is o rest = further is o rest

  finds_first_known : FindsFirstKnown same
  finds_first_known known rows = cases (first_known same 1 known rows) (finds_from 1 known rows)
    where
      cases : (o : Option ℕ) → MatchOption o (HaveNewNames same known rows) (IsFirstFrom 1 known rows)
          → MatchOption o (HaveNewNames same known rows) (IsFirstKnown same known rows)
      cases None none = none
      cases (Some place) f = record {
        earlier = f.earlier;
        row = f.row;
        later = f.later;
        split = f.split;
        at_place = f.at_place;
        known_name = f.known_name;
        none_before = f.none_before;
      }

pub first_known_is_first : FirstKnownIsFirst
first_known_is_first = record {
  accounts = finds_first_known same_account;
  apps = finds_first_known same_app;
  versions = finds_first_known same_version;
  units = finds_first_known same_unit;
}
