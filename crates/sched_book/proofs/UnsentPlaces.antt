-- What a choice is offered: exactly the unsent instances of open workunits from a place on, each once, in their order.
use Rattle.std.proofs.Common.{◌≡◌, ℕ, suc, ◌+◌, ◌<◌, Bool, true, false, cond, not, List, [], ◌∷◌, ◌++◌, map, get_or, Some, inl, inr, sym, refl, ap, ◌∙◌, subst, arith}
use Rattle.std.specs.Prelude.{◌&&◌, is_none, filter, slice_get, option_map, All, AllPairs, Contains}
use Rattle.std.proofs.lemmas.List.{length-map, map-append, get_or-map}
use Rattle.std.proofs.lemmas.List.Elements.{All-nil, All-cons, All-append, All-contains, All-contains_itself, All-weaker, filter-append}
use Rattle.std.proofs.lemmas.List.Kept.{AllPairs-filter}
use Rattle.sched_book.specs.Count.{is_open}
use Rattle.sched_book.specs.Desk.{workunit_at}
use Rattle.sched_book.specs.Offers.{unsent_in, unsent_among, unsent}
use Rattle.sched_book.specs.Places.{passes, places_in, places_among, places_where, status_of, is_before}
use Rattle.sched_book.specs.PlaceLaws.{is_unsent, IsUnsentFrom, AreUnsentFrom, OffersAreTheUnsent}
use Rattle.sched_book.specs.declared.desk.Candidate.{Candidate}
use Rattle.sched_book.specs.declared.instance.Instance.{Instance}
use Rattle.sched_book.specs.declared.instance.Place.{Place}
use Rattle.sched_book.specs.declared.instance.UnitBook.{UnitBook}
use Rattle.sched_book.specs.declared.rows.Workunit.{Workunit}
use Rattle.sched_book.specs.declared.world.World.{World}
use Rattle.sched_book.proofs.Newest.{front_of, behind, in_front, none_in_nothing, in_filter, passed_filter, passes_filter}
use Rattle.sched_book.proofs.PlacesOf.{nth-suc}
use Rattle.sched_book.proofs.PlacesWhere.{each_passes, none_missed, they_rise}

-- what a list contains, after a function
contains_mapped : {X Y : Type 0} (f : X → Y) (xs : List X) (x : X) → Contains xs x → Contains (map f xs) (f x)
contains_mapped f [] x there = absurd (none_in_nothing x there)
contains_mapped f (y ∷ ys) x there = elim (in_front y ys x there) [
  | inl same ↦ subst (λ z. Contains (map f (y ∷ ys)) (f z)) same (front_of (f y) (map f ys))
  | inr later ↦ behind (f y) (map f ys) (f x) (contains_mapped f ys x later)
]

-- a fact about each two values of a function is one about each two elements
pairs_unmapped : {X Y : Type 0} (R : Y → Y → Type 0) (f : X → Y) (xs : List X) → AllPairs R (map f xs) → AllPairs (λ x y. R (f x) (f y)) xs
pairs_unmapped R f xs all i j d less within =
    subst (λ y. R (f (get_or xs i d)) y) (get_or-map f xs j d (f d) within)
    (subst (λ y. R y (get_or (map f xs) j (f d))) (get_or-map f xs i d (f d) (omega arith))
    (all i j (f d) less (subst (λ n. j < n) (sym (length-map xs f)) within)))

module _ (w : World) (from : Place) where
  abbrev reached : Place → Bool
  reached p = not (is_before p from)

  abbrev place_of_offer : Candidate → Place
  place_of_offer c = c.place

  -- ---- the places of the candidates

  in_open_unit : (unit : ℕ) (row : Workunit) (number : ℕ) (xs : List Instance)
      → map place_of_offer (unsent_in from unit row number xs) ≡ filter reached (places_in unit number (λ x. is_none x.owner) xs)
  in_open_unit unit row number [] = refl
  in_open_unit unit row number (x ∷ xs) = cases (is_none x.owner) (reached here) refl (in_open_unit unit row (number + 1) xs)
    where
      here : Place
      here = record { unit = unit; number = number }

      offered : List Candidate
      offered = unsent_in from unit row (number + 1) xs

      passing : List Place
      passing = places_in unit (number + 1) (λ x. is_none x.owner) xs

      cases : (free late : Bool) → reached here ≡ late → map place_of_offer offered ≡ filter reached passing
          → map place_of_offer (cond (free && late) (record { place = here; unit = row } ∷ offered) offered)
          ≡ filter reached (cond free (here ∷ passing) passing)
      cases false late is same = same
      cases true true is same =
          ap (λ ps. here ∷ ps) same ∙ sym (ap (λ (b : Bool). cond b (here ∷ filter reached passing) (filter reached passing)) is)
      cases true false is same = same ∙ sym (ap (λ (b : Bool). cond b (here ∷ filter reached passing) (filter reached passing)) is)

  none_in_unit : (unit number : ℕ) (xs : List Instance) → places_in unit number (λ x. false) xs ≡ []
  none_in_unit unit number [] = refl
  none_in_unit unit number (x ∷ xs) = none_in_unit unit (number + 1) xs

  of_unit : (open_now : Bool) (unit : ℕ) (b : UnitBook) (offered : List Candidate) (passing : List Place)
      → map place_of_offer offered ≡ filter reached passing
      → map place_of_offer (cond open_now (unsent_in from unit b.unit 0 b.instances ++ offered) offered)
      ≡ filter reached (places_in unit 0 (λ x. open_now && is_none x.owner) b.instances ++ passing)
  of_unit true unit b offered passing same =
      let here = places_in unit 0 (λ x. is_none x.owner) b.instances in
      map-append place_of_offer (unsent_in from unit b.unit 0 b.instances) offered
      ∙ ap (λ ps. ps ++ map place_of_offer offered) (in_open_unit unit b.unit 0 b.instances)
      ∙ ap (λ ps. filter reached here ++ ps) same
      ∙ sym (filter-append reached here passing)
  of_unit false unit b offered passing same =
      same ∙ sym (ap (λ ps. filter reached (ps ++ passing)) (none_in_unit unit 0 b.instances))

  in_units : (unit : ℕ) (bs : List UnitBook)
      → map place_of_offer (unsent_among w from unit bs) ≡ filter reached (places_among unit (is_unsent w) bs)
  in_units unit [] = refl
  in_units unit (b ∷ bs) =
      of_unit (is_open (status_of w b)) unit b (unsent_among w from (unit + 1) bs) (places_among (unit + 1) (is_unsent w) bs)
      (in_units (unit + 1) bs)

  places_of_offers : map place_of_offer (unsent w from) ≡ filter reached (places_where w (is_unsent w))
  places_of_offers = in_units 1 w.units

  -- ---- their rows

  abbrev HasRow : Candidate → Type 0
  HasRow c = workunit_at w c.place.unit ≡ Some c.unit

  rows_in_unit : (unit : ℕ) (row : Workunit) → workunit_at w unit ≡ Some row → (number : ℕ) (xs : List Instance)
      → All HasRow (unsent_in from unit row number xs)
  rows_in_unit unit row is number [] = All-nil HasRow
  rows_in_unit unit row is number (x ∷ xs) =
      cases (is_none x.owner && reached (record { unit = unit; number = number })) (rows_in_unit unit row is (number + 1) xs)
    where
      here : Candidate
      here = record { place = record { unit = unit; number = number }; unit = row }

      offered : List Candidate
      offered = unsent_in from unit row (number + 1) xs

      cases : (t : Bool) → All HasRow offered → All HasRow (cond t (here ∷ offered) offered)
      cases true later = All-cons HasRow here offered is later
      cases false later = later

  rows_in_units : (unit : ℕ) (bs : List UnitBook)
      → ((i n : ℕ) (b : UnitBook) → n ≡ unit + i → slice_get bs i ≡ Some b → workunit_at w n ≡ Some b.unit)
      → All HasRow (unsent_among w from unit bs)
  rows_in_units unit [] rows = All-nil HasRow
  rows_in_units unit (b ∷ bs) rows =
      cases (is_open (status_of w b)) (rows_in_units (unit + 1) bs (λ i n c is there. rows (suc i) n c (omega (arith, is)) there))
    where
      offered : List Candidate
      offered = unsent_among w from (unit + 1) bs

      cases : (t : Bool) → All HasRow offered → All HasRow (cond t (unsent_in from unit b.unit 0 b.instances ++ offered) offered)
      cases true later =
          All-append HasRow (unsent_in from unit b.unit 0 b.instances) offered
          (rows_in_unit unit b.unit (rows 0 unit b (omega arith) refl) 0 b.instances) later
      cases false later = later

  rows_of_offers : All HasRow (unsent w from)
  rows_of_offers =
      rows_in_units 1 w.units
      (λ i n b is there. ap (workunit_at w) (let same : n ≡ suc i = omega (arith, is) in same)
      ∙ ap (option_map (λ (b : UnitBook). b.unit)) (nth-suc w.units i ∙ there))

  -- ---- together

  reached_is : (p : Place) (b : Bool) → is_before p from ≡ b → not b ≡ true → b ≡ false
  reached_is p false is pass = refl
  reached_is p true is pass = absurd cc

  is_unsent_from : (c : Candidate) → Contains (unsent w from) c → IsUnsentFrom w from c
  is_unsent_from c there =
      let among : Contains (filter reached (places_where w (is_unsent w))) c.place =
      subst (λ ps. Contains ps c.place) places_of_offers (contains_mapped place_of_offer (unsent w from) c there) in
      record {
        unsent =
            All-contains (λ p. passes w (is_unsent w) p ≡ true) (places_where w (is_unsent w)) c.place (each_passes w (is_unsent w))
            (in_filter reached (places_where w (is_unsent w)) c.place among);
        reached =
            reached_is c.place (is_before c.place from) refl (passed_filter reached (places_where w (is_unsent w)) c.place among);
        row = All-contains HasRow (unsent w from) c rows_of_offers there;
      }

  are_unsent_from : AreUnsentFrom w from (unsent w from)
  are_unsent_from = record {
    each =
        All-weaker (Contains (unsent w from)) (IsUnsentFrom w from) is_unsent_from (unsent w from) (All-contains_itself (unsent w from));
    none_missed = λ p pass is.
        subst (λ ps. Contains ps p) (sym places_of_offers)
        (passes_filter reached (places_where w (is_unsent w)) p (none_missed w (is_unsent w) p pass) (ap not is));
    rising =
        pairs_unmapped (λ p q. is_before p q ≡ true) place_of_offer (unsent w from)
        (subst (AllPairs (λ p q. is_before p q ≡ true)) (sym places_of_offers)
        (AllPairs-filter (λ p q. is_before p q ≡ true) reached (places_where w (is_unsent w)) (they_rise w (is_unsent w))));
  }

pub offers_are_the_unsent : OffersAreTheUnsent
offers_are_the_unsent w from = are_unsent_from w from
