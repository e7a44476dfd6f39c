-- The first place from one place on that a skip does not cover.
use Rattle.std.proofs.Common.{◌≡◌, Bool, true, false, true≢false, ◌&&◌, ◌||◌, cond, not, List, [], ◌∷◌, refl, sym, ap, ◌∙◌, inl, inr}
use Rattle.std.specs.Prelude.{◌⊎◌}
use Rattle.std.specs.List.{list_any}
use Rattle.std.proofs.lemmas.Bool.{and_from, and_left, and_parts, and_right, not-true, or_from, or_left, or_right}
use Rattle.sched_book.specs.Places.{is_before, is_same}
use Rattle.sched_book.specs.declared.instance.Place.{Place}
use Rattle.table_desk.specs.Skips.{SkipPlaces, covers, nearer, first_listed}
use Rattle.sched_book.proofs.Recording.{is_same-true, is_same-self}
use Rattle.table_desk.proofs.PlaceOrder.{not_itself, not_both, not_before}

-- ---- the first of some places from one place on

module _ (from : Place) where
  abbrev replaces : Place → Place → Bool
  replaces n x = not (is_before x from) && is_before x n

  pub not_early : (xs : List Place) (n : Place) → is_before n from ≡ false → is_before (first_listed from n xs) from ≡ false
  not_early [] n late = late
  not_early (x ∷ xs) n late = not_early xs (nearer from n x) (one (replaces n x) refl)
    where
      one : (b : Bool) → replaces n x ≡ b → is_before (cond b x n) from ≡ false
      one true is = not-true _ (and_parts _ _ is).0
      one false is = late

  -- it is not after the place that it begins with
  no_later : (xs : List Place) (n : Place) → is_before n (first_listed from n xs) ≡ false
  no_later [] n = not_itself n
  no_later (x ∷ xs) n = not_before n (nearer from n x) (first_listed from (nearer from n x) xs) (one (replaces n x) refl) (no_later xs (nearer from n x))
    where
      one : (b : Bool) → replaces n x ≡ b → is_before n (cond b x n) ≡ false
      one true is = not_both x n (and_parts _ _ is).1
      one false is = not_itself n

  -- none of the places is between
  none_between : (xs : List Place) (n p : Place) → is_before p from ≡ false → is_before p (first_listed from n xs) ≡ true → list_any (is_same p) xs ≡ false
  none_between [] n p late before = refl
  none_between (x ∷ xs) n p late before =
      or_from (is_same p x) (list_any (is_same p) xs) (apart (is_same p x) refl (no_later xs (nearer from n x))) (none_between xs (nearer from n x) p late before)
    where
      found : Place
      found = first_listed from (nearer from n x) xs

      reached : (b : Bool) → replaces n x ≡ b → is_before x from ≡ false → is_before (cond b x n) found ≡ false → is_before x found ≡ false
      reached true is late least = least
      reached false is late least = not_before x n found (sym (ap (λ b. not b && is_before x n) late) ∙ is) least

      apart : (b : Bool) → is_same p x ≡ b → is_before (nearer from n x) found ≡ false → is_same p x ≡ false
      apart false is least = is
      apart true is least =
          let one = is_same-true p x is in
          let past = reached (replaces n x) refl (ap (λ q. is_before q from) (sym one) ∙ late) least in
          absurd (true≢false (sym before ∙ ap (λ q. is_before q found) one ∙ past))

  -- it is the place that it begins with, or one of the others
  begins_or_listed : (xs : List Place) (n : Place) → (first_listed from n xs ≡ n) ⊎ (list_any (is_same (first_listed from n xs)) xs ≡ true)
  begins_or_listed [] n = inl refl
  begins_or_listed (x ∷ xs) n = elim (begins_or_listed xs (nearer from n x)) [
    | inl is ↦ turn (replaces n x) refl is
    | inr listed ↦ inr (or_right (is_same found x) (list_any (is_same found) xs) listed)
  ]
    where
      found : Place
      found = first_listed from (nearer from n x) xs

      turn : (b : Bool) → replaces n x ≡ b → found ≡ cond b x n → (found ≡ n) ⊎ ((is_same found x || list_any (is_same found) xs) ≡ true)
      turn true is same = inr (or_left (is_same found x) (list_any (is_same found) xs) (ap (λ q. is_same q x) same ∙ is_same-self x))
      turn false is same = inl same

-- ---- where a skip goes on

module _ (f : SkipPlaces) (from until : Place) where
  abbrev next : Place
  next = first_listed from until f.came

  pub not_covered : is_before until f.place ≡ false → covers f next ≡ false
  not_covered past = elim (begins_or_listed from f.came until) [
    | inl is ↦ and_left (is_before next f.place) (not (list_any (is_same next) f.came)) (ap (λ p. is_before p f.place) is ∙ past)
    | inr listed ↦ and_right (is_before next f.place) (not (list_any (is_same next) f.came)) (ap not listed)
  ]

  pub covered_before : (until ≡ from) ⊎ (until ≡ f.place) → (p : Place) → is_before p from ≡ false → is_before p next ≡ true → covers f p ≡ true
  covered_before one p late before = and_from (is_before p f.place) (not (list_any (is_same p) f.came)) (ahead one) (ap not (none_between from f.came until p late before))
    where
      early : (b : Bool) → is_before p until ≡ b → is_before p until ≡ true
      early true is = is
      early false is = absurd (true≢false (sym before ∙ not_before p until next is (no_later from f.came until)))

      ahead : (until ≡ from) ⊎ (until ≡ f.place) → is_before p f.place ≡ true
      ahead (inl is) = absurd (true≢false (sym (early (is_before p until) refl) ∙ ap (is_before p) is ∙ late))
      ahead (inr is) = sym (ap (is_before p) is) ∙ early (is_before p until) refl
