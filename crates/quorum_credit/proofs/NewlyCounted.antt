-- What settlement counts over all instances is what it counts over those of the touched workunits.
use Rattle.std.proofs.Common.{◌≡◌, ℕ, zero, suc, ◌+◌, ◌<◌, Bool, true, false, cond, List, [], ◌∷◌, length, Option, Some, None, sym, refl, ap, ◌∙◌, subst, arith}
use Rattle.std.specs.Prelude.{◌&&◌, not, sum_by, option_map, option_and_then, unwrap_or, slice_get}
use Rattle.std.proofs.lemmas.List.Sums.{sum_by-cons, sum_by-append}
use Rattle.std.proofs.lemmas.Option.{slice_get_past}
use Rattle.sched_book.specs.Count.{tells_error, is_valid, is_invalid}
use Rattle.sched_book.specs.Desk.{instances_at}
use Rattle.sched_book.specs.Places.{nth, unit_at, passes, places, places_in, places_among, is_owned_by, book_verdict, verdict_of}
use Rattle.sched_book.specs.Settle.{is_late, newly, charges, merits}
use Rattle.sched_book.specs.declared.instance.Instance.{Instance}
use Rattle.sched_book.specs.declared.instance.Place.{Place}
use Rattle.sched_book.specs.declared.instance.UnitBook.{UnitBook}
use Rattle.sched_book.specs.declared.world.World.{World}
use Rattle.sched_book.proofs.PlacesOf.{nth-suc}
use Rattle.sched_book.proofs.Credits.{sum_same, sum_plus}
use Rattle.quorum_credit.specs.Scores.{standing_with, no_standing, standing_in, standing_at, one_if_new, charges_between, merits_between, charges_at, merits_at, unit_charges, unit_merits}
use Rattle.quorum_credit.specs.Settling.{TouchJust}
use Rattle.call_working_set.specs.WorkingSets.{is_among}
use Rattle.call_working_set.proofs.Sums.{sum_from, at_one, from_zero, sum_of_some}
use Rattle.quorum_credit.specs.declared.scores.Standing.{Standing}

-- a test of the host's own instances is two tests
owned_and : (w : World) (host : ℕ) (t : UnitBook → Instance → Bool) (p : Place)
    → passes w (λ b x. is_owned_by host x && t b x) p ≡ (passes w (λ b x. is_owned_by host x) p && passes w t p)
owned_and w host t p = at_unit (unit_at w p.unit)
  where
    at_number : (b : UnitBook) (o : Option Instance)
        → unwrap_or (option_map (λ x. is_owned_by host x && t b x) o) false
        ≡ (unwrap_or (option_map (λ x. is_owned_by host x) o) false && unwrap_or (option_map (t b) o) false)
    at_number b None = refl
    at_number b (Some x) = refl

    at_unit : (o : Option UnitBook)
        → unwrap_or (option_and_then (λ b. option_map (λ x. is_owned_by host x && t b x) (slice_get b.instances p.number)) o) false
        ≡ (unwrap_or (option_and_then (λ b. option_map (λ x. is_owned_by host x) (slice_get b.instances p.number)) o) false
        && unwrap_or (option_and_then (λ b. option_map (t b) (slice_get b.instances p.number)) o) false)
    at_unit None = refl
    at_unit (Some b) = at_number b (slice_get b.instances p.number)

-- a test of instances by their standings
by_standing : (w : World) (t : UnitBook → Instance → Bool) (s : Standing → Bool) → s no_standing ≡ false
    → ((b : UnitBook) (x : Instance) → s (standing_with (book_verdict w.apps b x) x) ≡ t b x) → (p : Place)
    → passes w t p ≡ s (standing_at w p)
by_standing w t s none is p = at_unit (unit_at w p.unit)
  where
    at_number : (b : UnitBook) (o : Option Instance)
        → unwrap_or (option_map (t b) o) false ≡ s (unwrap_or (option_map (λ x. standing_with (book_verdict w.apps b x) x) o) no_standing)
    at_number b None = sym none
    at_number b (Some x) = sym (is b x)

    at_unit : (o : Option UnitBook)
        → unwrap_or (option_and_then (λ b. option_map (t b) (slice_get b.instances p.number)) o) false
        ≡ s (unwrap_or (option_map (λ b. standing_in w.apps b p.number) o) no_standing)
    at_unit None = sym none
    at_unit (Some b) = at_number b (slice_get b.instances p.number)

one_of_owned : (own new old : Bool) → cond {A = ℕ} ((own && new) && not old) 1 0 ≡ cond own (one_if_new new old) 0
one_of_owned true new old = refl
one_of_owned false new old = refl

-- what newly passes, as a sum over the places
newly-sum : (t : World → UnitBook → Instance → Bool) (s : Standing → Bool) → s no_standing ≡ false
    → ((w : World) (b : UnitBook) (x : Instance) → s (standing_with (book_verdict w.apps b x) x) ≡ t w b x) → (old new : World) (host : ℕ)
    → newly t old new host
    ≡ sum_by (λ p. cond (passes new (λ b x. is_owned_by host x) p) (one_if_new (s (standing_at new p)) (s (standing_at old p))) 0) (places new)
newly-sum t s none is old new host =
    sum_same (λ p. cond {A = ℕ} (passes new (λ b x. is_owned_by host x && t new b x) p && not (passes old (t old) p)) 1 0)
    (λ p. cond (passes new (λ b x. is_owned_by host x) p) (one_if_new (s (standing_at new p)) (s (standing_at old p))) 0)
    (λ p.
    ap (λ b. cond {A = ℕ} (b && not (passes old (t old) p)) 1 0) (owned_and new host (t new) p)
    ∙ one_of_owned (passes new (λ b x. is_owned_by host x) p) (passes new (t new) p) (passes old (t old) p)
    ∙ ap (λ b. cond (passes new (λ b x. is_owned_by host x) p) (one_if_new b (passes old (t old) p)) 0) (by_standing new (t new) s none (is new) p)
    ∙ ap (λ b. cond (passes new (λ b x. is_owned_by host x) p) (one_if_new (s (standing_at new p)) b) 0) (by_standing old (t old) s none (is old) p))
    (places new)

three : (own : Bool) (a b c : ℕ) → cond own a 0 + cond own b 0 + cond own c 0 ≡ cond own (a + b + c) 0
three true a b c = refl
three false a b c = refl

charges-sum : (old new : World) (host : ℕ) → charges old new host ≡ sum_by (charges_at old new host) (places new)
charges-sum old new host =
    let own : Place → Bool = passes new (λ b x. is_owned_by host x) in
    let part : (Standing → Bool) → Place → ℕ = λ s p. cond (own p) (one_if_new (s (standing_at new p)) (s (standing_at old p))) 0 in
    let error : Standing → Bool = λ s. s.has_error in
    let late : Standing → Bool = λ s. s.is_late in
    let invalid : Standing → Bool = λ s. is_invalid s.verdict in
    let first = newly-sum (λ w b x. tells_error x.report) error refl (λ w b x. refl) old new host in
    let second = newly-sum (λ w b x. is_late x.lapse) late refl (λ w b x. refl) old new host in
    let third = newly-sum (λ w b x. is_invalid (verdict_of w b x)) invalid refl (λ w b x. refl) old new host in
    ap (λ n. n + newly (λ w b x. is_late x.lapse) old new host + newly (λ w b x. is_invalid (verdict_of w b x)) old new host) first
    ∙ ap (λ n. sum_by (part error) (places new) + n + newly (λ w b x. is_invalid (verdict_of w b x)) old new host) second
    ∙ ap (λ n. sum_by (part error) (places new) + sum_by (part late) (places new) + n) third
    ∙ ap (λ n. n + sum_by (part invalid) (places new)) (sum_plus (part error) (part late) (places new))
    ∙ sum_plus (λ p. part error p + part late p) (part invalid) (places new)
    ∙ sum_same (λ p. part error p + part late p + part invalid p) (charges_at old new host)
    (λ p. three (own p) (one_if_new (error (standing_at new p)) (error (standing_at old p))) (one_if_new (late (standing_at new p)) (late (standing_at old p))) (one_if_new (invalid (standing_at new p)) (invalid (standing_at old p))))
    (places new)

merits-sum : (old new : World) (host : ℕ) → merits old new host ≡ sum_by (merits_at old new host) (places new)
merits-sum old new host = newly-sum (λ w b x. is_valid (verdict_of w b x)) (λ s. is_valid s.verdict) refl (λ w b x. refl) old new host

-- a sum over the places of all instances is one over the workunits
module _ (f : Place → ℕ) (g : ℕ → ℕ) where
  sum_of_units : (bs : List UnitBook) (n : ℕ)
      → ((i : ℕ) (b : UnitBook) → slice_get bs i ≡ Some b → g (n + i) ≡ sum_by f (places_in (n + i) 0 (λ x. true) b.instances))
      → sum_by f (places_among n (λ b x. true) bs) ≡ sum_from g n (length bs)
  unfolding sum_from
  sum_of_units [] n each = refl
  sum_of_units (b ∷ bs) n each =
      let here : g n ≡ sum_by f (places_in n 0 (λ x. true) b.instances) = subst (λ m. g m ≡ sum_by f (places_in m 0 (λ x. true) b.instances)) (let same : n + 0 ≡ n = omega arith in same) (each 0 b refl) in
      let next : places_among (n + 1) (λ b x. true) bs ≡ places_among (suc n) (λ b x. true) bs =
      ap (λ m. places_among m (λ b x. true) bs) (let same : n + 1 ≡ suc n = omega arith in same) in
      sum_by-append f (places_in n 0 (λ x. true) b.instances) (places_among (n + 1) (λ b x. true) bs)
      ∙ ap (λ m. m + sum_by f (places_among (n + 1) (λ b x. true) bs)) (sym here)
      ∙ ap (λ ps. g n + sum_by f ps) next
      ∙ ap (λ m. g n + m) (sum_of_units bs (suc n) (λ i c is. subst (λ m. g m ≡ sum_by f (places_in m 0 (λ x. true) c.instances)) (let same : n + suc i ≡ suc n + i = omega arith in same) (each (suc i) c is)))

-- if a workunit is as it was, nothing is new
none_new : (b : Bool) → one_if_new b b ≡ 0
none_new true = refl
none_new false = refl

no_charges : (s : Standing) → charges_between s s ≡ 0
no_charges s =
    ap (λ n. n + one_if_new s.is_late s.is_late + one_if_new (is_invalid s.verdict) (is_invalid s.verdict)) (none_new s.has_error)
    ∙ ap (λ n. 0 + n + one_if_new (is_invalid s.verdict) (is_invalid s.verdict)) (none_new s.is_late)
    ∙ ap (λ n. 0 + 0 + n) (none_new (is_invalid s.verdict))

no_merits : (s : Standing) → merits_between s s ≡ 0
no_merits s = none_new (is_valid s.verdict)

zero_either : (own : Bool) (n : ℕ) → n ≡ 0 → cond own n 0 ≡ 0
zero_either true n is = is
zero_either false n is = refl

-- a sum over the places of one workunit is 0 if each term is
pub sum_in-zero : (f : Place → ℕ) (unit number : ℕ) (xs : List Instance) → ((i : ℕ) → f (record { unit = unit; number = i }) ≡ 0)
    → sum_by f (places_in unit number (λ x. true) xs) ≡ 0
sum_in-zero f unit number [] none = refl
sum_in-zero f unit number (x ∷ xs) none =
    sum_by-cons f (record { unit = unit; number = number }) (places_in unit (number + 1) (λ y. true) xs)
    ∙ ap (λ n. n + sum_by f (places_in unit (number + 1) (λ y. true) xs)) (none number)
    ∙ ap (λ n. 0 + n) (sum_in-zero f unit (number + 1) xs none)

module _ (units : List ℕ) (old new : World) (touch : TouchJust units old new) where
  pub stands_as_before : (unit : ℕ) → is_among units unit ≡ false → (i : ℕ)
      → standing_at new (record { unit = unit; number = i }) ≡ standing_at old (record { unit = unit; number = i })
  stands_as_before unit among i =
      ap (λ o. unwrap_or (option_map (λ b. standing_in new.apps b i) o) no_standing) (touch.others unit among)
      ∙ ap (λ apps. unwrap_or (option_map (λ b. standing_in apps b i) (unit_at old unit)) no_standing) touch.apps

  -- a count that is 0 if nothing is new: over all workunits it is the same as over the touched ones
  over_touched : (own : Place → Bool) (between : Standing → Standing → ℕ) → ((s : Standing) → between s s ≡ 0)
      → sum_by (λ p. cond (own p) (between (standing_at old p) (standing_at new p)) 0) (places new)
      ≡ sum_by (λ unit. sum_by (λ p. cond (own p) (between (standing_at old p) (standing_at new p)) 0) (places_in unit 0 (λ x. true) (instances_at new unit))) units
  over_touched own between none =
      let f : Place → ℕ = λ p. cond (own p) (between (standing_at old p) (standing_at new p)) 0 in
      let g : ℕ → ℕ = λ unit. sum_by f (places_in unit 0 (λ x. true) (instances_at new unit)) in
      sum_of_units f g new.units 1 (λ i b is. ap (λ o. sum_by f (places_in (1 + i) 0 (λ x. true) (unwrap_or (option_map (λ (c : UnitBook). c.instances) o) [])))
      (let place : 1 + i ≡ suc i = omega arith in ap (nth new.units) place ∙ nth-suc new.units i ∙ is))
      ∙ whole g refl (λ unit among.
      sum_in-zero f unit 0 (instances_at new unit) (λ i.
      zero_either (own (record { unit = unit; number = i })) _ (ap (between (standing_at old (record { unit = unit; number = i }))) (stands_as_before unit among i) ∙ none (standing_at old (record { unit = unit; number = i })))))
      (λ m far. ap (λ o. sum_by f (places_in m 0 (λ x. true) (unwrap_or (option_map (λ (c : UnitBook). c.instances) o) []))) (nth_beyond m far))
    where
      nth_beyond : (m : ℕ) → length new.units < m → nth new.units m ≡ None
      nth_beyond zero far = absurd (omega arith)
      nth_beyond (suc m) far = nth-suc new.units m ∙ slice_get_past new.units m (omega arith)

      whole : (g : ℕ → ℕ) → g 0 ≡ 0 → ((unit : ℕ) → is_among units unit ≡ false → g unit ≡ 0) → ((m : ℕ) → length new.units < m → g m ≡ 0)
          → sum_from g 1 (length new.units) ≡ sum_by g units
      whole g first others beyond =
          let from : sum_from g 0 (suc (length new.units)) ≡ sum_by g units =
          sum_of_some g (suc (length new.units)) 0 units touch.rising (from_zero units) (λ m low among. others m among) (λ m far. beyond m (omega arith)) in
          at_one g (length new.units) first ∙ from

  pub charges_touched : (host : ℕ) → sum_by (unit_charges old new host) units ≡ charges old new host
  charges_touched host =
      sym (charges-sum old new host ∙ over_touched (passes new (λ b x. is_owned_by host x)) charges_between no_charges)

  pub merits_touched : (host : ℕ) → sum_by (unit_merits old new host) units ≡ merits old new host
  merits_touched host =
      sym (merits-sum old new host ∙ over_touched (passes new (λ b x. is_owned_by host x)) merits_between no_merits)
