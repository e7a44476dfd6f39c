-- The places of a world's instances that pass a test: exactly these, each once, in their order.
use Rattle.std.proofs.Common.{◌≡◌, ℕ, zero, suc, ◌+◌, ◌<◌, Bool, true, false, cond, eqb, List, [], ◌∷◌, ◌++◌, Option, Some, None, sym, refl, ap, ◌∙◌, subst, arith}
use Rattle.std.specs.Prelude.{◌&&◌, ◌||◌, nat_lt, All, AllPairs, Contains, option_map, option_and_then, unwrap_or, slice_get}
use Rattle.std.proofs.lemmas.List.Elements.{All-nil, All-cons, All-append, Contains-append_left, Contains-append_right}
use Rattle.std.proofs.lemmas.List.Kept.{AllPairs-cons}
use Rattle.std.proofs.lemmas.Bool.{lt-ltb, eq-eqb}
use Rattle.sched_book.specs.Places.{passes, places_in, places_among, places_where, is_before}
use Rattle.sched_book.specs.PlaceLaws.{PlacesAreThoseThatPass}
use Rattle.sched_book.specs.declared.instance.Instance.{Instance}
use Rattle.sched_book.specs.declared.instance.Place.{Place}
use Rattle.sched_book.specs.declared.instance.UnitBook.{UnitBook}
use Rattle.sched_book.specs.declared.world.World.{World}
use Rattle.sched_book.proofs.Newest.{front_of, behind}
use Rattle.sched_book.proofs.PlacesOf.{nth-suc}
use Rattle.sched_book.proofs.Rising.{pairs_nil}

-- what holds of a place holds of an equal one
same_place : (P : Place → Type 0) (u v n m : ℕ) → u ≡ v → n ≡ m → P (record { unit = u; number = n }) → P (record { unit = v; number = m })
same_place P u v n m same also holds =
    subst (λ z. P (record { unit = v; number = z })) also (subst (λ z. P (record { unit = z; number = n })) same holds)

-- ---- each place passes

module _ (test : UnitBook → Instance → Bool) (P : Place → Type 0) where
  -- a property of the place of each instance that passes: in a workunit, for numbers that begin at `from`
  each_in_unit : (b : UnitBook) (unit from : ℕ) (xs : List Instance)
      → ((n : ℕ) (x : Instance) → slice_get xs n ≡ Some x → test b x ≡ true → P (record { unit = unit; number = from + n }))
      → All P (places_in unit from (test b) xs)
  each_in_unit b unit from [] each = All-nil P
  each_in_unit b unit from (x ∷ xs) each =
      cases (test b x) refl
      (each_in_unit b unit (from + 1) xs
      (λ n y is pass. same_place P unit unit (from + suc n) (from + 1 + n) refl (omega arith) (each (suc n) y is pass)))
    where
      rest : List Place
      rest = places_in unit (from + 1) (test b) xs

      cases : (t : Bool) → test b x ≡ t → All P rest → All P (cond t (record { unit = unit; number = from } ∷ rest) rest)
      cases false fails later = later
      cases true pass later =
          All-cons P (record { unit = unit; number = from }) rest
          (same_place P unit unit (from + 0) from refl (omega arith) (each 0 x refl pass)) later

  -- in workunits, for places that begin at `from`
  pub each_among : (from : ℕ) (bs : List UnitBook)
      → ((i n : ℕ) (b : UnitBook) (x : Instance) → slice_get bs i ≡ Some b → slice_get b.instances n ≡ Some x → test b x ≡ true
      → P (record { unit = from + i; number = n }))
      → All P (places_among from test bs)
  each_among from [] each = All-nil P
  each_among from (b ∷ bs) each =
      All-append P (places_in from 0 (test b) b.instances) (places_among (from + 1) test bs)
      (each_in_unit b from 0 b.instances
      (λ n x is pass. same_place P (from + 0) from n (0 + n) (omega arith) (omega arith) (each 0 n b x refl is pass)))
      (each_among (from + 1) bs
      (λ i n c x stands is pass. same_place P (from + suc i) (from + 1 + i) n n (omega arith) refl (each (suc i) n c x stands is pass)))

-- a test at a place is a test of the instance there
passes_at : (w : World) (test : UnitBook → Instance → Bool) (i n : ℕ) (b : UnitBook) (x : Instance) → slice_get w.units i ≡ Some b
    → slice_get b.instances n ≡ Some x → passes w test (record { unit = suc i; number = n }) ≡ test b x
passes_at w test i n b x found stands =
    ap (λ (o : Option UnitBook). unwrap_or (option_and_then (λ b. option_map (test b) (slice_get b.instances n)) o) false)
    (nth-suc w.units i ∙ found)
    ∙ ap (λ (o : Option Instance). unwrap_or (option_map (test b) o) false) stands

pub each_passes : (w : World) (test : UnitBook → Instance → Bool) → All (λ p. passes w test p ≡ true) (places_where w test)
each_passes w test =
    each_among test (λ p. passes w test p ≡ true) 1 w.units
    (λ i n b x found stands pass.
    same_place (λ p. passes w test p ≡ true) (suc i) (1 + i) n n (omega arith) refl (passes_at w test i n b x found stands ∙ pass))

-- ---- none is missed

module _ (test : UnitBook → Instance → Bool) where
  listed_in_unit : (b : UnitBook) (unit from : ℕ) (xs : List Instance) (i : ℕ) (x : Instance) (number : ℕ) → slice_get xs i ≡ Some x
      → test b x ≡ true → number ≡ from + i → Contains (places_in unit from (test b) xs) (record { unit = unit; number = number })
  listed_in_unit b unit from [] i x number found pass is = absurd (let never : None ≡ Some x = found in cc)
  listed_in_unit b unit from (y ∷ ys) zero x number found pass is =
      let same : number ≡ from = omega arith in
      let here : y ≡ x = (let s : Some y ≡ Some x = found in cc) in
      subst (λ n. Contains (places_in unit from (test b) (y ∷ ys)) (record { unit = unit; number = n })) (sym same)
      (kept (test b y) (ap (test b) here ∙ pass))
    where
      rest : List Place
      rest = places_in unit (from + 1) (test b) ys

      kept : (t : Bool) → t ≡ true → Contains (cond t (record { unit = unit; number = from } ∷ rest) rest) (record { unit = unit; number = from })
      kept true is = front_of (record { unit = unit; number = from }) rest
      kept false is = absurd cc
  listed_in_unit b unit from (y ∷ ys) (suc i) x number found pass is =
      more (test b y) (listed_in_unit b unit (from + 1) ys i x number found pass (omega arith))
    where
      rest : List Place
      rest = places_in unit (from + 1) (test b) ys

      more : (t : Bool) → Contains rest (record { unit = unit; number = number })
          → Contains (cond t (record { unit = unit; number = from } ∷ rest) rest) (record { unit = unit; number = number })
      more true there = behind (record { unit = unit; number = from }) rest (record { unit = unit; number = number }) there
      more false there = there

  listed_among : (from : ℕ) (bs : List UnitBook) (i : ℕ) (b : UnitBook) (x : Instance) (unit number : ℕ) → slice_get bs i ≡ Some b
      → slice_get b.instances number ≡ Some x → test b x ≡ true → unit ≡ from + i
      → Contains (places_among from test bs) (record { unit = unit; number = number })
  listed_among from [] i b x unit number found stands pass is = absurd (let never : None ≡ Some b = found in cc)
  listed_among from (c ∷ cs) zero b x unit number found stands pass is =
      let same : unit ≡ from = omega arith in
      let here : c ≡ b = (let s : Some c ≡ Some b = found in cc) in
      subst (λ u. Contains (places_among from test (c ∷ cs)) (record { unit = u; number = number })) (sym same)
      (subst (λ z. Contains (places_among from test (z ∷ cs)) (record { unit = from; number = number })) (sym here)
      (Contains-append_left (places_in from 0 (test b) b.instances) (places_among (from + 1) test cs) (record { unit = from; number = number })
      (listed_in_unit b from 0 b.instances number x number stands pass (omega arith))))
  listed_among from (c ∷ cs) (suc i) b x unit number found stands pass is =
      Contains-append_right (places_in from 0 (test c) c.instances) (places_among (from + 1) test cs) (record { unit = unit; number = number })
      (listed_among (from + 1) cs i b x unit number found stands pass (omega arith))

-- an instance that passes exists
stands_where : (w : World) (test : UnitBook → Instance → Bool) (unit number : ℕ) → passes w test (record { unit = unit; number = number }) ≡ true
    → Contains (places_where w test) (record { unit = unit; number = number })
stands_where w test zero number pass = absurd cc
stands_where w test (suc i) number pass = in_book (slice_get w.units i) refl (sym (ap at_unit (nth-suc w.units i)) ∙ pass)
  where
    at_unit : Option UnitBook → Bool
    at_unit o = unwrap_or (option_and_then (λ b. option_map (test b) (slice_get b.instances number)) o) false

    at_number : (b : UnitBook) → slice_get w.units i ≡ Some b → (o : Option Instance) → slice_get b.instances number ≡ o
        → unwrap_or (option_map (test b) o) false ≡ true → Contains (places_where w test) (record { unit = suc i; number = number })
    at_number b found None stands pass = absurd cc
    at_number b found (Some x) stands pass = listed_among test 1 w.units i b x (suc i) number found stands pass (omega arith)

    in_book : (o : Option UnitBook) → slice_get w.units i ≡ o → at_unit o ≡ true
        → Contains (places_where w test) (record { unit = suc i; number = number })
    in_book None found pass = absurd cc
    in_book (Some b) found pass = at_number b found (slice_get b.instances number) refl pass

pub none_missed : (w : World) (test : UnitBook → Instance → Bool) (p : Place) → passes w test p ≡ true → Contains (places_where w test) p
none_missed w test p pass = stands_where w test p.unit p.number pass

-- ---- they are in order

abbrev Before : Place → Place → Type 0
Before p q = is_before p q ≡ true

of_later_unit : (u v n m : ℕ) → u < v → Before (record { unit = u; number = n }) (record { unit = v; number = m })
of_later_unit u v n m less = ap (λ b. b || (eqb u v && nat_lt n m)) (lt-ltb u v less)

of_later_number : (u n m : ℕ) → n < m → Before (record { unit = u; number = n }) (record { unit = u; number = m })
of_later_number u n m less = either (nat_lt u u)
  where
    second : (eqb u u && nat_lt n m) ≡ true
    second = ap (λ b. b && nat_lt n m) (eq-eqb u u refl) ∙ lt-ltb n m less

    either : (b : Bool) → (b || (eqb u u && nat_lt n m)) ≡ true
    either true = refl
    either false = second

module _ (test : UnitBook → Instance → Bool) where
  -- the places of a workunit and of later ones
  rising_in_unit : (b : UnitBook) (unit from : ℕ) (xs : List Instance) (later : List Place)
      → ((n : ℕ) → All (Before (record { unit = unit; number = n })) later) → AllPairs Before later
      → AllPairs Before (places_in unit from (test b) xs ++ later)
  rising_in_unit b unit from [] later above rising = rising
  rising_in_unit b unit from (x ∷ xs) later above rising = cases (test b x) (rising_in_unit b unit (from + 1) xs later above rising)
    where
      here : Place
      here = record { unit = unit; number = from }

      rest : List Place
      rest = places_in unit (from + 1) (test b) xs

      cases : (t : Bool) → AllPairs Before (rest ++ later) → AllPairs Before (cond t (here ∷ rest) rest ++ later)
      cases false risen = risen
      cases true risen =
          AllPairs-cons Before here (rest ++ later)
          (All-append (Before here) rest later
          (each_in_unit test (Before here) b unit (from + 1) xs
          (λ n y is pass. of_later_number unit from (from + 1 + n) (omega arith)))
          (above from))
          risen

  rising_among : (from : ℕ) (bs : List UnitBook) → AllPairs Before (places_among from test bs)
  rising_among from [] = pairs_nil Before
  rising_among from (b ∷ bs) =
      rising_in_unit b from 0 b.instances (places_among (from + 1) test bs)
      (λ n. each_among test (Before (record { unit = from; number = n })) (from + 1) bs
      (λ i m c x found stands pass. of_later_unit from (from + 1 + i) n m (omega arith)))
      (rising_among (from + 1) bs)

pub they_rise : (w : World) (test : UnitBook → Instance → Bool) → AllPairs (λ p q. is_before p q ≡ true) (places_where w test)
they_rise w test = rising_among test 1 w.units

pub places_are_those_that_pass : PlacesAreThoseThatPass
places_are_those_that_pass w test = record { each = each_passes w test; none_missed = none_missed w test; rising = they_rise w test }
