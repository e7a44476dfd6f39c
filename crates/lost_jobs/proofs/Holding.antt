-- What a host holds after changes, as a part of what it held before.
use Rattle.std.proofs.Common.{◌≡◌, ℕ, suc, ◌+◌, Bool, true, false, cond, not, List, [], ◌∷◌, ◌++◌, Option, Some, sym, refl, ap, ◌∙◌, arith}
use Rattle.std.specs.Prelude.{◌&&◌, filter, option_map, option_and_then, unwrap_or, slice_get}
use Rattle.std.specs.List.{list_any}
use Rattle.std.specs.Str.{bytes_eq}
use Rattle.std.proofs.lemmas.List.Elements.{filter-append, filter_agree}
use Rattle.sched_book.specs.Places.{nth, places_in, places_among, passes, is_held_by, held_by, name_at}
use Rattle.sched_book.specs.Lost.{is_listed, unlisted, lost}
use Rattle.sched_book.specs.declared.instance.Instance.{Instance}
use Rattle.sched_book.specs.declared.instance.Place.{Place}
use Rattle.sched_book.specs.declared.instance.UnitBook.{UnitBook}
use Rattle.sched_book.specs.declared.world.World.{World}
use Rattle.sched_book.proofs.PlacesOf.{nth-suc}
use Rattle.sched_book.proofs.Recording.{passes-is}
use Rattle.texts.specs.SeenSet.{has_seen}
use Rattle.lost_jobs.specs.Holding.{HoldsNoMore, is_missing}
use Rattle.texts.specs.declared.seen_set.SeenSet.{SeenSet}

-- a test of an instance; false if there is none
abbrev test : (Instance → Bool) → Option Instance → Bool
test g o = unwrap_or (option_map g o) false

abbrev stands_in : List UnitBook → ℕ → ℕ → Option Instance
stands_in bs j i = option_and_then (λ (b : UnitBook). slice_get b.instances i) (slice_get bs j)

module _ (g : Instance → Bool) (t : Place → Bool) where
  -- a first place, which is in the later list only if it is in the earlier one
  step : (now before : Bool) (p : Place) (xs ys : List Place) → t p ≡ now → (now ≡ true → before ≡ true) → xs ≡ filter t ys
      → cond now (p ∷ xs) xs ≡ filter t (cond before (p ∷ ys) ys)
  step true true p xs ys is less rest = ap (λ zs. p ∷ zs) rest ∙ sym (ap (λ (b : Bool). cond b (p ∷ filter t ys) (filter t ys)) is)
  step true false p xs ys is less rest = let never : false ≡ true = less refl in absurd cc
  step false true p xs ys is less rest = rest ∙ sym (ap (λ (b : Bool). cond b (p ∷ filter t ys) (filter t ys)) is)
  step false false p xs ys is less rest = rest

  in_unit : (unit k : ℕ) (xs ys : List Instance)
      → ((i : ℕ) → t (record { unit = unit; number = k + i }) ≡ test g (slice_get xs i))
      → ((i : ℕ) → test g (slice_get xs i) ≡ true → test g (slice_get ys i) ≡ true)
      → places_in unit k g xs ≡ filter t (places_in unit k g ys)
  in_unit unit k [] [] is less = refl
  in_unit unit k [] (y ∷ ys) is less =
      step false (g y) (record { unit = unit; number = k }) [] (places_in unit (k + 1) g ys)
      (ap (λ m. t (record { unit = unit; number = m })) (omega arith) ∙ is 0) (λ never. less 0 never)
      (in_unit unit (k + 1) [] ys (λ i. ap (λ m. t (record { unit = unit; number = m })) (omega arith) ∙ is (suc i)) (λ i. less (suc i)))
  in_unit unit k (x ∷ xs) [] is less =
      step (g x) false (record { unit = unit; number = k }) (places_in unit (k + 1) g xs) []
      (ap (λ m. t (record { unit = unit; number = m })) (omega arith) ∙ is 0) (less 0)
      (in_unit unit (k + 1) xs [] (λ i. ap (λ m. t (record { unit = unit; number = m })) (omega arith) ∙ is (suc i)) (λ i. less (suc i)))
  in_unit unit k (x ∷ xs) (y ∷ ys) is less =
      step (g x) (g y) (record { unit = unit; number = k }) (places_in unit (k + 1) g xs) (places_in unit (k + 1) g ys)
      (ap (λ m. t (record { unit = unit; number = m })) (omega arith) ∙ is 0) (less 0)
      (in_unit unit (k + 1) xs ys (λ i. ap (λ m. t (record { unit = unit; number = m })) (omega arith) ∙ is (suc i)) (λ i. less (suc i)))

  here : (unit i : ℕ) → t (record { unit = unit; number = i }) ≡ t (record { unit = unit + 0; number = i })
  here unit i = ap (λ m. t (record { unit = m; number = i })) (omega arith)

  next : (unit j i : ℕ) → t (record { unit = unit + 1 + j; number = i }) ≡ t (record { unit = unit + suc j; number = i })
  next unit j i = ap (λ m. t (record { unit = m; number = i })) (omega arith)

  -- the instances of one workunit, and those of the later ones
  both : (unit : ℕ) (xs ys : List Instance) (later : List Place) (bs : List UnitBook)
      → ((i : ℕ) → t (record { unit = unit; number = i }) ≡ test g (slice_get xs i))
      → ((i : ℕ) → test g (slice_get xs i) ≡ true → test g (slice_get ys i) ≡ true)
      → later ≡ filter t (places_among (unit + 1) (λ b x. g x) bs)
      → places_in unit 0 g xs ++ later ≡ filter t (places_in unit 0 g ys ++ places_among (unit + 1) (λ b x. g x) bs)
  both unit xs ys later bs is less rest =
      ap (λ ps. ps ++ later) (in_unit unit 0 xs ys (λ i. ap (λ m. t (record { unit = unit; number = m })) (omega arith) ∙ is i) less)
      ∙ ap (λ ps. filter t (places_in unit 0 g ys) ++ ps) rest
      ∙ sym (filter-append t (places_in unit 0 g ys) (places_among (unit + 1) (λ b x. g x) bs))

  -- the same for workunits
  among : (unit : ℕ) (cs bs : List UnitBook)
      → ((j i : ℕ) → t (record { unit = unit + j; number = i }) ≡ test g (stands_in cs j i))
      → ((j i : ℕ) → test g (stands_in cs j i) ≡ true → test g (stands_in bs j i) ≡ true)
      → places_among unit (λ b x. g x) cs ≡ filter t (places_among unit (λ b x. g x) bs)
  among unit [] [] is less = refl
  among unit [] (b ∷ bs) is less =
      both unit [] b.instances (places_among (unit + 1) (λ b x. g x) []) bs
      (λ i. here unit i ∙ is 0 i) (less 0) (among (unit + 1) [] bs (λ j i. next unit j i ∙ is (suc j) i) (λ j. less (suc j)))
  among unit (c ∷ cs) [] is less =
      both unit c.instances [] (places_among (unit + 1) (λ b x. g x) cs) []
      (λ i. here unit i ∙ is 0 i) (less 0) (among (unit + 1) cs [] (λ j i. next unit j i ∙ is (suc j) i) (λ j. less (suc j)))
  among unit (c ∷ cs) (b ∷ bs) is less =
      both unit c.instances b.instances (places_among (unit + 1) (λ b x. g x) cs) bs
      (λ i. here unit i ∙ is 0 i) (less 0) (among (unit + 1) cs bs (λ j i. next unit j i ∙ is (suc j) i) (λ j. less (suc j)))

-- a test of the instance at a place of a world, by the indices
at_index : (g : Instance → Bool) (w : World) (j i : ℕ) → passes w (λ b x. g x) (record { unit = 1 + j; number = i }) ≡ test g (stands_in w.units j i)
at_index g w j i =
    passes-is w g (record { unit = 1 + j; number = i })
    ∙ ap (λ n. test g (option_and_then (λ (b : UnitBook). slice_get b.instances i) (nth w.units n))) (let same : 1 + j ≡ suc j = omega arith in same)
    ∙ ap (λ o. test g (option_and_then (λ (b : UnitBook). slice_get b.instances i) o)) (nth-suc w.units j)

-- what the host holds afterwards is what it held before and still holds
pub held_after : (before after : World) (host : ℕ) → HoldsNoMore before after host
    → held_by after host ≡ filter (passes after (λ b x. is_held_by host x)) (held_by before host)
held_after before after host no_more =
    let g = is_held_by host in
    among g (passes after (λ b x. g x)) 1 after.units before.units
    (at_index g after)
    (λ j i pass. sym (at_index g before j i) ∙ no_more (record { unit = 1 + j; number = i }) (at_index g after j i ∙ pass))

-- two filters in turn
filter_twice : {X : Type 0} (p q : X → Bool) (xs : List X) → filter q (filter p xs) ≡ filter (λ x. p x && q x) xs
filter_twice p q [] = refl
filter_twice p q (x ∷ xs) = cases (p x) (q x) (filter_twice p q xs) refl
  where
    cases : (s t : Bool) → filter q (filter p xs) ≡ filter (λ x. p x && q x) xs → q x ≡ t
        → filter q (cond s (x ∷ filter p xs) (filter p xs)) ≡ cond (s && t) (x ∷ filter (λ x. p x && q x) xs) (filter (λ x. p x && q x) xs)
    cases true true rest is = ap (λ (b : Bool). cond b (x ∷ filter q (filter p xs)) (filter q (filter p xs))) is ∙ ap (λ ys. x ∷ ys) rest
    cases true false rest is = ap (λ (b : Bool). cond b (x ∷ filter q (filter p xs)) (filter q (filter p xs))) is ∙ rest
    cases false t rest is = rest

-- the missing ones among what the host held are those that it holds and its client does not list
pub unlisted_is : (before after : World) (host : ℕ) (set : SeenSet (List ℕ)) (names : List (List ℕ))
    → ((name : List ℕ) → has_seen bytes_eq set name ≡ list_any (bytes_eq name) names) → HoldsNoMore before after host
    → filter (is_missing after host set) (held_by before host) ≡ unlisted after host (Some names)
unlisted_is before after host set names has no_more =
    sym (filter_twice (passes after (λ b x. is_held_by host x)) (λ p. not (has_seen bytes_eq set (name_at after p))) (held_by before host))
    ∙ filter_agree (λ p. not (has_seen bytes_eq set (name_at after p))) (λ p. not (is_listed after names p)) (λ p. ap not (has (name_at after p)))
    (filter (passes after (λ b x. is_held_by host x)) (held_by before host))
    ∙ ap (filter (λ p. not (is_listed after names p))) (sym (held_after before after host no_more))

-- if lost jobs are sent again, the lost ones are those not listed; otherwise there are none
pub lost_is : (w : World) (resends : Bool) (host : ℕ) (names : Option (List (List ℕ))) → w.settings.resend_lost_results ≡ resends
    → lost w host names ≡ cond resends (unlisted w host names) []
lost_is w resends host names is = ap (λ (b : Bool). cond b (unlisted w host names) []) is
