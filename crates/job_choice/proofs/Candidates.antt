-- The candidates of a world are the instances without owner of its open workunits, in the order of their places.
use Rattle.std.proofs.Common.{◌≡◌, ℕ, zero, suc, ◌+◌, ◌<◌, ◌⊎◌, inl, inr, Bool, true, false, cond, not, eqb, List, [], ◌∷◌, ◌++◌, Option, Some, None, sym, refl, ap, ◌∙◌, subst, arith}
use Rattle.std.specs.Prelude.{◌&&◌, nat_lt, slice_get, is_none, option_map, option_and_then, unwrap_or, Contains}
use Rattle.std.proofs.lemmas.Bool.{or_cases, or_left, or_right, and_parts, and_from, ltb-true, eqb-true, lt-ltb, eq-eqb, false_from_ne_true}
use Rattle.std.proofs.lemmas.List.Elements.{Contains-append_left, Contains-append_right, Contains-append_cases}
use Rattle.sched_book.specs.Count.{is_open}
use Rattle.sched_book.specs.Offers.{unsent_in, unsent_among}
use Rattle.sched_book.specs.Places.{nth, unit_at, status_of, passes, places, is_before}
use Rattle.sched_book.specs.declared.desk.Candidate.{Candidate}
use Rattle.sched_book.specs.declared.instance.Instance.{Instance}
use Rattle.sched_book.specs.declared.instance.Place.{Place}
use Rattle.sched_book.specs.declared.instance.UnitBook.{UnitBook}
use Rattle.sched_book.specs.declared.rows.Workunit.{Workunit}
use Rattle.sched_book.specs.declared.world.World.{World}
use Rattle.sched_book.proofs.Newest.{none_in_nothing, in_front, behind, front_of}
use Rattle.sched_book.proofs.PlacesOf.{nth-suc}
use Rattle.sched_book.proofs.PlacesWhere.{none_missed}
use Rattle.job_choice.specs.Offered.{first_place}

-- the order of places
abbrev pub Before : Place → Place → Type 0
Before p q = (p.unit < q.unit) ⊎ ((p.unit ≡ q.unit) × (p.number < q.number))

pub before_from : (p q : Place) → is_before p q ≡ true → Before p q
before_from p q h = elim (or_cases (nat_lt p.unit q.unit) (eqb p.unit q.unit && nat_lt p.number q.number) h) [
  | inl less ↦ inl (ltb-true p.unit q.unit less)
  | inr same ↦ (let parts = and_parts (eqb p.unit q.unit) (nat_lt p.number q.number) same in
      inr (eqb-true p.unit q.unit parts.0, ltb-true p.number q.number parts.1))
]

pub before_test : (p q : Place) → Before p q → is_before p q ≡ true
before_test p q h = elim h [
  | inl less ↦ or_left (nat_lt p.unit q.unit) (eqb p.unit q.unit && nat_lt p.number q.number) (lt-ltb p.unit q.unit less)
  | inr same ↦ or_right (nat_lt p.unit q.unit) (eqb p.unit q.unit && nat_lt p.number q.number)
      (and_from (eqb p.unit q.unit) (nat_lt p.number q.number) (eq-eqb p.unit q.unit same.0) (lt-ltb p.number q.number same.1))
]

-- no instance is before the first place
pub after_first : (r : Place) (i : ℕ) → r.unit ≡ 1 + i → is_before r first_place ≡ false
after_first r i unit = false_from_ne_true (is_before r first_place) (λ t. elim (before_from r first_place t) [
  | inl less ↦ (let low : r.unit < 1 = less in omega arith)
  | inr same ↦ (let low : r.number < 0 = same.1 in omega arith)
])

-- each candidate is before all that follow it
abbrev pub Rising : List Candidate → Type 0
Rising [] = Unit {0}
Rising (c ∷ cs) = ((d : Candidate) → Contains cs d → Before c.place d.place) × Rising cs

rising_append : (xs ys : List Candidate) → Rising xs → Rising ys
    → ((c d : Candidate) → Contains xs c → Contains ys d → Before c.place d.place) → Rising (xs ++ ys)
rising_append [] ys rx ry across = ry
rising_append (x ∷ xs) ys rx ry across = (
  λ d h. elim (Contains-append_cases xs ys d h) [ inl there ↦ rx.0 d there | inr there ↦ across x d (front_of x xs) there ],
  rising_append xs ys rx.1 ry (λ c d h k. across c d (behind x xs c h) k),
)

-- what a candidate of a workunit is
pub record InUnit (place : ℕ) (unit : Workunit) (n : ℕ) (xs : List Instance) (c : Candidate) : Type 0 where
  pub at : c.place.unit ≡ place
  pub is : c.unit ≡ unit
  pub index : ℕ
  pub number : c.place.number ≡ n + index
  pub x : Instance
  pub found : slice_get xs index ≡ Some x
  pub free : is_none x.owner ≡ true

one_later : (place : ℕ) (unit : Workunit) (n : ℕ) (x : Instance) (xs : List Instance) (c : Candidate)
    → InUnit place unit (n + 1) xs c → InUnit place unit n (x ∷ xs) c
one_later place unit n x xs c h = record {
  at = h.at;
  is = h.is;
  index = suc h.index;
  number = (let number : c.place.number ≡ n + 1 + h.index = h.number in omega arith);
  x = h.x;
  found = h.found;
  free = h.free;
}

in_unit : (from : Place) (place : ℕ) (unit : Workunit) (n : ℕ) (xs : List Instance) (c : Candidate)
    → Contains (unsent_in from place unit n xs) c → InUnit place unit n xs c
in_unit from place unit n [] c h = absurd (none_in_nothing c h)
in_unit from place unit n (x ∷ xs) c h =
    cases (is_none x.owner) (not (is_before (record { unit = place; number = n }) from)) refl (in_unit from place unit (n + 1) xs c) h
  where
    here : Candidate
    here = record { place = record { unit = place; number = n }; unit = unit }

    cases : (s t : Bool) → is_none x.owner ≡ s
        → (Contains (unsent_in from place unit (n + 1) xs) c → InUnit place unit (n + 1) xs c)
        → Contains (cond (s && t) ((record { place = record { unit = place; number = n }; unit = unit }) ∷ unsent_in from place unit (n + 1) xs) (unsent_in from place unit (n + 1) xs)) c
        → InUnit place unit n (x ∷ xs) c
    cases true true free more h = elim (in_front (record { place = record { unit = place; number = n }; unit = unit }) (unsent_in from place unit (n + 1) xs) c h) [
      | inl same ↦ record {
        at = ap (λ (d : Candidate). d.place.unit) (sym same);
        is = ap (λ (d : Candidate). d.unit) (sym same);
        index = 0;
        number = ap (λ (d : Candidate). d.place.number) (sym same) ∙ (let zero_more : n ≡ n + 0 = omega arith in zero_more);
        x = x;
        found = refl;
        free = free;
      }
      | inr there ↦ one_later place unit n x xs c (more there)
    ]
    cases true false free more h = one_later place unit n x xs c (more h)
    cases false t free more h = one_later place unit n x xs c (more h)

rising_in : (from : Place) (place : ℕ) (unit : Workunit) (n : ℕ) (xs : List Instance) → Rising (unsent_in from place unit n xs)
rising_in from place unit n [] = tt
rising_in from place unit n (x ∷ xs) =
    cases (is_none x.owner && not (is_before (record { unit = place; number = n }) from)) (rising_in from place unit (n + 1) xs)
  where
    cases : (s : Bool) → Rising (unsent_in from place unit (n + 1) xs)
        → Rising (cond s ((record { place = record { unit = place; number = n }; unit = unit }) ∷ unsent_in from place unit (n + 1) xs) (unsent_in from place unit (n + 1) xs))
    cases true more = (
      λ d h. (let there = in_unit from place unit (n + 1) xs d h in
          inr (sym there.at, (let number : d.place.number ≡ n + 1 + there.index = there.number in omega arith))),
      more,
    )
    cases false more = more

-- what a candidate of a world is
pub record InWorld (w : World) (first : ℕ) (bs : List UnitBook) (c : Candidate) : Type 0 where
  pub index : ℕ
  pub place : c.place.unit ≡ first + index
  pub book : UnitBook
  pub found : slice_get bs index ≡ Some book
  pub opened : is_open (status_of w book) ≡ true
  pub row : c.unit ≡ book.unit
  pub x : Instance
  pub stands : slice_get book.instances c.place.number ≡ Some x
  pub free : is_none x.owner ≡ true

one_further : (w : World) (first : ℕ) (b : UnitBook) (bs : List UnitBook) (c : Candidate) → InWorld w (first + 1) bs c → InWorld w first (b ∷ bs) c
one_further w first b bs c h = record {
  index = suc h.index;
  place = (let place : c.place.unit ≡ first + 1 + h.index = h.place in omega arith);
  book = h.book;
  found = h.found;
  opened = h.opened;
  row = h.row;
  x = h.x;
  stands = h.stands;
  free = h.free;
}

here_in_world : (w : World) (first : ℕ) (b : UnitBook) (bs : List UnitBook) (c : Candidate) → is_open (status_of w b) ≡ true
    → InUnit first b.unit 0 b.instances c → InWorld w first (b ∷ bs) c
here_in_world w first b bs c opened h = record {
  index = 0;
  place = h.at ∙ (let zero_more : first ≡ first + 0 = omega arith in zero_more);
  book = b;
  found = refl;
  opened = opened;
  row = h.is;
  x = h.x;
  stands = ap (slice_get b.instances) (h.number ∙ (let none_more : 0 + h.index ≡ h.index = omega arith in none_more)) ∙ h.found;
  free = h.free;
}

pub in_world : (w : World) (from : Place) (first : ℕ) (bs : List UnitBook) (c : Candidate)
    → Contains (unsent_among w from first bs) c → InWorld w first bs c
in_world w from first [] c h = absurd (none_in_nothing c h)
in_world w from first (b ∷ bs) c h = cases (is_open (status_of w b)) refl (in_world w from (first + 1) bs c) h
  where
    cases : (s : Bool) → is_open (status_of w b) ≡ s → (Contains (unsent_among w from (first + 1) bs) c → InWorld w (first + 1) bs c)
        → Contains (cond s (unsent_in from first b.unit 0 b.instances ++ unsent_among w from (first + 1) bs) (unsent_among w from (first + 1) bs)) c
        → InWorld w first (b ∷ bs) c
    cases true opened more h = elim (Contains-append_cases (unsent_in from first b.unit 0 b.instances) (unsent_among w from (first + 1) bs) c h) [
      | inl here ↦ here_in_world w first b bs c opened (in_unit from first b.unit 0 b.instances c here)
      | inr there ↦ one_further w first b bs c (more there)
    ]
    cases false opened more h = one_further w first b bs c (more h)

pub rising_among : (w : World) (from : Place) (first : ℕ) (bs : List UnitBook) → Rising (unsent_among w from first bs)
rising_among w from first [] = tt
rising_among w from first (b ∷ bs) = cases (is_open (status_of w b)) (rising_among w from (first + 1) bs)
  where
    cases : (s : Bool) → Rising (unsent_among w from (first + 1) bs)
        → Rising (cond s (unsent_in from first b.unit 0 b.instances ++ unsent_among w from (first + 1) bs) (unsent_among w from (first + 1) bs))
    cases true more = rising_append (unsent_in from first b.unit 0 b.instances) (unsent_among w from (first + 1) bs)
        (rising_in from first b.unit 0 b.instances) more
        (λ c d h k. (let here = in_unit from first b.unit 0 b.instances c h in
        let there = in_world w from (first + 1) bs d k in
        let at : c.place.unit ≡ first = here.at in
        let place : d.place.unit ≡ first + 1 + there.index = there.place in
        inl (omega arith)))
    cases false more = more

-- an instance without owner of an open workunit is a candidate
listed_in : (from : Place) (place : ℕ) (unit : Workunit) (n : ℕ) (xs : List Instance) (i : ℕ) (x : Instance) (m : ℕ)
    → slice_get xs i ≡ Some x → is_none x.owner ≡ true → m ≡ n + i → is_before (record { unit = place; number = m }) from ≡ false
    → Contains (unsent_in from place unit n xs) (record { place = record { unit = place; number = m }; unit = unit })
listed_in from place unit n [] i x m found free number behind_it = absurd (let never : None ≡ Some x = found in cc)
listed_in from place unit n (y ∷ ys) zero x m found free number behind_it =
    let same : m ≡ n = omega arith in
    let is : y ≡ x = (let s : Some y ≡ Some x = found in cc) in
    subst (λ k. Contains (unsent_in from place unit n (y ∷ ys)) (record { place = record { unit = place; number = k }; unit = unit })) (sym same)
    (kept (is_none y.owner) (is_before (record { unit = place; number = n }) from) (ap (λ (z : Instance). is_none z.owner) is ∙ free)
    (ap (λ k. is_before (record { unit = place; number = k }) from) (sym same) ∙ behind_it))
  where
    kept : (s t : Bool) → s ≡ true → t ≡ false
        → Contains (cond (s && not t) ((record { place = record { unit = place; number = n }; unit = unit }) ∷ unsent_in from place unit (n + 1) ys) (unsent_in from place unit (n + 1) ys))
        (record { place = record { unit = place; number = n }; unit = unit })
    kept true false s t = front_of (record { place = record { unit = place; number = n }; unit = unit }) (unsent_in from place unit (n + 1) ys)
    kept true true s t = absurd cc
    kept false b s t = absurd cc
listed_in from place unit n (y ∷ ys) (suc i) x m found free number behind_it =
    more (is_none y.owner && not (is_before (record { unit = place; number = n }) from))
    (listed_in from place unit (n + 1) ys i x m found free (omega arith) behind_it)
  where
    more : (s : Bool) → Contains (unsent_in from place unit (n + 1) ys) (record { place = record { unit = place; number = m }; unit = unit })
        → Contains (cond s ((record { place = record { unit = place; number = n }; unit = unit }) ∷ unsent_in from place unit (n + 1) ys) (unsent_in from place unit (n + 1) ys))
        (record { place = record { unit = place; number = m }; unit = unit })
    more true there = behind (record { place = record { unit = place; number = n }; unit = unit }) (unsent_in from place unit (n + 1) ys) (record { place = record { unit = place; number = m }; unit = unit }) there
    more false there = there

pub world_lists : (w : World) (from : Place) (first : ℕ) (bs : List UnitBook) (i : ℕ) (b : UnitBook) (x : Instance) (p : Place)
    → slice_get bs i ≡ Some b → slice_get b.instances p.number ≡ Some x → is_none x.owner ≡ true → is_open (status_of w b) ≡ true
    → p.unit ≡ first + i → is_before p from ≡ false
    → Contains (unsent_among w from first bs) (record { place = p; unit = b.unit })
world_lists w from first [] i b x p found stands free opened place behind_it = absurd (let never : None ≡ Some b = found in cc)
world_lists w from first (y ∷ ys) zero b x p found stands free opened place behind_it =
    let same : p.unit ≡ first = omega arith in
    let is : y ≡ b = (let s : Some y ≡ Some b = found in cc) in
    subst (λ u. Contains (unsent_among w from first (y ∷ ys)) (record { place = record { unit = u; number = p.number }; unit = b.unit })) (sym same)
    (subst (λ z. Contains (unsent_among w from first (z ∷ ys)) (record { place = record { unit = first; number = p.number }; unit = b.unit })) (sym is)
    (kept (is_open (status_of w b)) opened
    (listed_in from first b.unit 0 b.instances p.number x p.number stands free (omega arith)
    (ap (λ u. is_before (record { unit = u; number = p.number }) from) (sym same) ∙ behind_it))))
  where
    kept : (s : Bool) → s ≡ true
        → Contains (unsent_in from first b.unit 0 b.instances) (record { place = record { unit = first; number = p.number }; unit = b.unit })
        → Contains (cond s (unsent_in from first b.unit 0 b.instances ++ unsent_among w from (first + 1) ys) (unsent_among w from (first + 1) ys))
        (record { place = record { unit = first; number = p.number }; unit = b.unit })
    kept true s there = Contains-append_left (unsent_in from first b.unit 0 b.instances) (unsent_among w from (first + 1) ys) (record { place = record { unit = first; number = p.number }; unit = b.unit }) there
    kept false s there = absurd cc
world_lists w from first (y ∷ ys) (suc i) b x p found stands free opened place behind_it =
    more (is_open (status_of w y)) (world_lists w from (first + 1) ys i b x p found stands free opened (omega arith) behind_it)
  where
    more : (s : Bool) → Contains (unsent_among w from (first + 1) ys) (record { place = p; unit = b.unit })
        → Contains (cond s (unsent_in from first y.unit 0 y.instances ++ unsent_among w from (first + 1) ys) (unsent_among w from (first + 1) ys)) (record { place = p; unit = b.unit })
    more true there = Contains-append_right (unsent_in from first y.unit 0 y.instances) (unsent_among w from (first + 1) ys) (record { place = p; unit = b.unit }) there
    more false there = there

-- the element at a place that counts from 1
pub nth_found : {X : Type 0} (xs : List X) (n : ℕ) (x : X) → nth xs n ≡ Some x → (i : ℕ) × (n ≡ 1 + i) × (slice_get xs i ≡ Some x)
nth_found xs zero x h = absurd (let never : None ≡ Some x = h in cc)
nth_found xs (suc i) x h = (i, omega arith, sym (nth-suc xs i) ∙ h)

pub found_nth : {X : Type 0} (xs : List X) (n i : ℕ) (x : X) → n ≡ 1 + i → slice_get xs i ≡ Some x → nth xs n ≡ Some x
found_nth xs n i x is found = ap (nth xs) (let same : n ≡ suc i = omega arith in same) ∙ nth-suc xs i ∙ found

-- an instance that passes a test
pub record Stood (w : World) (test : UnitBook → Instance → Bool) (p : Place) : Type 0 where
  pub index : ℕ
  pub place : p.unit ≡ 1 + index
  pub book : UnitBook
  pub at : unit_at w p.unit ≡ Some book
  pub found : slice_get w.units index ≡ Some book
  pub x : Instance
  pub stands : slice_get book.instances p.number ≡ Some x
  pub passed : test book x ≡ true

pub stood : (w : World) (test : UnitBook → Instance → Bool) (p : Place) → passes w test p ≡ true → Stood w test p
stood w test p h = in_book (unit_at w p.unit) refl h
  where
    at_number : (b : UnitBook) → unit_at w p.unit ≡ Some b → (o : Option Instance) → slice_get b.instances p.number ≡ o
        → unwrap_or (option_map (test b) o) false ≡ true → Stood w test p
    at_number b at None stands h = absurd cc
    at_number b at (Some x) stands h =
        let there = nth_found w.units p.unit b at in
        record { index = there.0; place = there.1; book = b; at = at; found = there.2; x = x; stands = stands; passed = h }

    in_book : (o : Option UnitBook) → unit_at w p.unit ≡ o
        → unwrap_or (option_and_then (λ b. option_map (test b) (slice_get b.instances p.number)) o) false ≡ true → Stood w test p
    in_book None at h = absurd cc
    in_book (Some b) at h = at_number b at (slice_get b.instances p.number) refl h

pub passes_at : (w : World) (test : UnitBook → Instance → Bool) (p : Place) (b : UnitBook) (x : Instance) → unit_at w p.unit ≡ Some b
    → slice_get b.instances p.number ≡ Some x → passes w test p ≡ test b x
passes_at w test p b x at stands =
    ap (λ (o : Option UnitBook). unwrap_or (option_and_then (λ b. option_map (test b) (slice_get b.instances p.number)) o) false) at
    ∙ ap (λ (o : Option Instance). unwrap_or (option_map (test b) o) false) stands

-- a place that passes a test is among the places
pub is_place : (w : World) (test : UnitBook → Instance → Bool) (p : Place) → passes w test p ≡ true → Contains (places w) p
is_place w test p h =
    let there = stood w test p h in
    none_missed w (λ b x. true) p (passes_at w (λ b x. true) p there.book there.x there.at there.stands)
