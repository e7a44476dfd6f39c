-- The credit of a host after a call is its credit before, plus what the scores bring.
use Rattle.std.proofs.Common.{◌≡◌, ℕ, zero, suc, ◌+◌, ◌<◌, Bool, true, false, cond, List, [], ◌∷◌, length, Option, Some, None, sym, refl, ap, ap₂, ◌∙◌, subst, zero-add, arith}
use Rattle.std.specs.Prelude.{◌&&◌, ◌==◌, not, sum_by, option_map, option_and_then, unwrap_or, slice_get}
use Rattle.std.proofs.lemmas.List.Sums.{sum_by-cons}
use Rattle.std.proofs.lemmas.Option.{slice_get_past}
use Rattle.sched_book.specs.Count.{is_valid}
use Rattle.sched_book.specs.Desk.{instances_at}
use Rattle.sched_book.specs.Places.{nth, unit_at, passes, places_in, option_any, is_owned_by, book_verdict, credit_in, host_credit}
use Rattle.sched_book.specs.declared.instance.Instance.{Instance}
use Rattle.sched_book.specs.declared.instance.Place.{Place}
use Rattle.sched_book.specs.declared.instance.UnitBook.{UnitBook}
use Rattle.sched_book.specs.declared.rows.App.{App}
use Rattle.sched_book.specs.declared.rows.Workunit.{Workunit}
use Rattle.sched_book.specs.declared.world.World.{World}
use Rattle.sched_book.proofs.Credits.{times}
use Rattle.sched_book.proofs.PlacesOf.{nth-suc}
use Rattle.quorum_credit.specs.CreditKept.{UnitContinues, CreditContinues}
use Rattle.quorum_credit.specs.Scores.{standing_with, no_standing, standing_in, standing_at, credit_between, unit_credit, credit_new_at, unit_credits, credits_in}
use Rattle.quorum_credit.specs.Settling.{TouchJust, AreScores}
use Rattle.quorum_credit.specs.declared.scores.Score.{Score}
use Rattle.quorum_credit.specs.declared.scores.Standing.{Standing}
use Rattle.quorum_credit.proofs.Scored.{credits_in-scores}
use Rattle.quorum_credit.proofs.NewlyCounted.{sum_in-zero, stands_as_before}
use Rattle.call_working_set.proofs.Sums.{sum_from, at_one, sum_from_plus, sum_from_zero, sum_listed, from_zero, sum_of_some}
use Rattle.call_working_set.specs.WorkingSets.{is_among}

-- sums over the places of a workunit's instances, and further ones
abbrev place : ℕ → ℕ → Place
place unit number = record { unit = unit; number = number }

sum_placed : (f : Place → ℕ) (unit n : ℕ) (xs : List Instance) (more : ℕ) → ((i : ℕ) → slice_get xs i ≡ None → f (place unit (n + i)) ≡ 0)
    → sum_from (λ i. f (place unit i)) n (length xs + more) ≡ sum_by f (places_in unit n (λ x. true) xs)
unfolding sum_from
sum_placed f unit n [] more none = sum_from_zero (λ i. f (place unit i)) n (0 + more) (λ i. none i refl)
sum_placed f unit n (x ∷ xs) more none =
    let g : ℕ → ℕ = λ i. f (place unit i) in
    let rest : sum_from g (suc n) (length xs + more) ≡ sum_by f (places_in unit (suc n) (λ x. true) xs) =
    sum_placed f unit (suc n) xs more
    (λ i past. ap g (let at : suc n + i ≡ n + suc i = omega arith in at) ∙ none (suc i) past) in
    ap (sum_from g n) (let at : suc (length xs) + more ≡ suc (length xs + more) = omega arith in at)
    ∙ ap (λ k. f (place unit n) + k) rest
    ∙ ap (λ m. f (place unit n) + sum_by f (places_in unit m (λ x. true) xs)) (let at : suc n ≡ n + 1 = omega arith in at)
    ∙ sym (sum_by-cons f (place unit n) (places_in unit (n + 1) (λ x. true) xs))

-- the credit that a host has for the instance at a place
abbrev credit_of_one : List App → ℕ → UnitBook → Instance → ℕ
credit_of_one apps host b x = cond (is_owned_by host x && is_valid (book_verdict apps b x)) b.unit.credit 0

abbrev credit_of_unit : List App → ℕ → Option UnitBook → ℕ → ℕ
credit_of_unit apps host o number = unwrap_or (option_and_then (λ (b : UnitBook). option_map (credit_of_one apps host b) (slice_get b.instances number)) o) 0

abbrev won_at : World → ℕ → Place → ℕ
won_at w host p = credit_of_unit w.apps host (unit_at w p.unit) p.number

-- the credit for all instances of a workunit, and of all workunits
abbrev won_in : World → ℕ → ℕ → ℕ
won_in w host unit = unwrap_or (option_map (credit_in w.apps host) (unit_at w unit)) 0

won_in-places : (w : World) (host unit more : ℕ) → sum_from (λ i. won_at w host (place unit i)) 0 (length (instances_at w unit) + more) ≡ won_in w host unit
won_in-places w host unit more = at (unit_at w unit)
  where
    at : (o : Option UnitBook)
        → sum_from (λ i. credit_of_unit w.apps host o i) 0 (length (unwrap_or (option_map (λ (b : UnitBook). b.instances) o) []) + more)
        ≡ unwrap_or (option_map (credit_in w.apps host) o) 0
    at None = sum_from_zero (λ i. 0) 0 (0 + more) (λ i. refl)
    at (Some b) =
        sum_listed (credit_of_one w.apps host b) (λ i. credit_of_unit w.apps host (Some b) i) 0 b.instances more
        (λ i. ap (λ k. unwrap_or (option_map (credit_of_one w.apps host b) (slice_get b.instances k)) 0) (let same : 0 + i ≡ i = omega arith in same))
        ∙ sym (times b.unit.credit (λ x. is_owned_by host x && is_valid (book_verdict w.apps b x)) b.instances)

host_credit-units : (w : World) (host more : ℕ) → sum_from (won_in w host) 1 (length w.units + more) ≡ host_credit w host
host_credit-units w host more =
    sum_listed (credit_in w.apps host) (won_in w host) 1 w.units more
    (λ i. ap (λ o. unwrap_or (option_map (credit_in w.apps host) o) 0)
    (ap (nth w.units) (let at : 1 + i ≡ suc i = omega arith in at) ∙ nth-suc w.units i))

-- a host that no instance was given to has no credit
pub host_credit-none : (w : World) (host : ℕ)
    → ((unit : ℕ) (b : UnitBook) (number : ℕ) (x : Instance) → unit_at w unit ≡ Some b → slice_get b.instances number ≡ Some x → is_owned_by host x ≡ false)
    → host_credit w host ≡ 0
host_credit-none w host none =
    sym (host_credit-units w host 0) ∙ sum_from_zero (won_in w host) 1 (length w.units + 0) (λ i. of_unit (1 + i))
  where
    at_number : (unit : ℕ) (b : UnitBook) → unit_at w unit ≡ Some b → (number : ℕ) (o : Option Instance) → slice_get b.instances number ≡ o
        → unwrap_or (option_map (credit_of_one w.apps host b) o) 0 ≡ 0
    at_number unit b stands number None there = refl
    at_number unit b stands number (Some x) there =
        ap (λ own. cond (own && is_valid (book_verdict w.apps b x)) b.unit.credit 0) (none unit b number x stands there)

    at_unit : (unit : ℕ) (o : Option UnitBook) → unit_at w unit ≡ o → (number : ℕ) → credit_of_unit w.apps host o number ≡ 0
    at_unit unit None stands number = refl
    at_unit unit (Some b) stands number = at_number unit b stands number (slice_get b.instances number) refl

    of_unit : (unit : ℕ) → won_in w host unit ≡ 0
    of_unit unit =
        sym (won_in-places w host unit 0)
        ∙ sum_from_zero (λ i. won_at w host (place unit i)) 0 (length (instances_at w unit) + 0) (λ i. at_unit unit (unit_at w unit) refl (0 + i))

-- what is new of one instance, by its owner and by the verdicts on it
one_new : (own owned valid was : Bool) (credit : ℕ) → (was ≡ true → valid ≡ true) → (was ≡ true → own ≡ owned)
    → cond (own && valid) credit 0 ≡ cond (owned && was) credit 0 + cond own (cond (valid && not was) credit 0) 0
one_new own owned valid true credit stays same = by own owned valid (same refl) (stays refl)
  where
    by : (own owned valid : Bool) → own ≡ owned → valid ≡ true
        → cond (own && valid) credit 0 ≡ cond (owned && true) credit 0 + cond own (cond (valid && false) credit 0) 0
    by true true true same stays = omega arith
    by false false valid same stays = omega arith
    by own owned false same stays = absurd cc
    by true false valid same stays = absurd cc
    by false true valid same stays = absurd cc
one_new true owned true false credit stays same = by owned
  where
    by : (owned : Bool) → credit ≡ cond (owned && false) credit 0 + credit
    by true = omega arith
    by false = omega arith
one_new true owned false false credit stays same = by owned
  where
    by : (owned : Bool) → 0 ≡ cond (owned && false) credit 0 + 0
    by true = refl
    by false = refl
one_new false owned valid false credit stays same = by owned
  where
    by : (owned : Bool) → 0 ≡ cond (owned && false) credit 0 + 0
    by true = refl
    by false = refl

-- A world that continues: at each place the host has what it had, plus what is new there.
module _ (old new : World) (goes : CreditContinues old new) (host unit number : ℕ) where
  abbrev new_in : UnitBook → Standing → Option Instance → ℕ
  new_in c before q =
      cond (unwrap_or (option_map (is_owned_by host) q) false)
      (credit_between c.unit.credit before (unwrap_or (option_map (λ y. standing_with (book_verdict new.apps c y) y) q) no_standing)) 0

  -- there was no instance
  from_none : (c : UnitBook) (q : Option Instance) → unwrap_or (option_map (credit_of_one new.apps host c) q) 0 ≡ 0 + new_in c no_standing q
  from_none c None = refl
  from_none c (Some y) = one_new (is_owned_by host y) false (is_valid (book_verdict new.apps c y)) false c.unit.credit (λ never. absurd cc) (λ never. absurd cc)

  unpaid : (own was : Bool) (credit : ℕ) → was ≡ false → 0 ≡ cond (own && was) credit 0 + 0
  unpaid true true credit is = absurd cc
  unpaid true false credit is = refl
  unpaid false was credit is = refl

  -- there was an instance
  from_some : (b c : UnitBook) → UnitContinues old new b c → (x : Instance) → slice_get b.instances number ≡ Some x
      → (q : Option Instance) → slice_get c.instances number ≡ q
      → unwrap_or (option_map (credit_of_one new.apps host c) q) 0 ≡ credit_of_one old.apps host b x + new_in c (standing_with (book_verdict old.apps b x) x) q
  from_some b c on x stood None stands = unpaid (is_owned_by host x) (is_valid (book_verdict old.apps b x)) b.unit.credit (never (is_valid (book_verdict old.apps b x)) refl)
    where
      never : (t : Bool) → is_valid (book_verdict old.apps b x) ≡ t → is_valid (book_verdict old.apps b x) ≡ false
      never true is = let there = on.valid number x stood is in absurd (let two : None ≡ Some there.0 = sym stands ∙ there.1 in cc)
      never false is = is
  from_some b c on x stood (Some y) stands =
      one_new (is_owned_by host y) (is_owned_by host x) (is_valid (book_verdict new.apps c y)) (is_valid (book_verdict old.apps b x)) c.unit.credit
      (λ is. (let there = on.valid number x stood is in ap (λ z. is_valid (book_verdict new.apps c z)) (same there.0 there.1) ∙ there.2))
      (λ is. (let there = on.valid number x stood is in ap (is_owned_by host) (same there.0 there.1) ∙ ap (option_any (λ n. n == host)) there.3))
      ∙ ap (λ (u : Workunit). cond (is_owned_by host x && is_valid (book_verdict old.apps b x)) u.credit 0 + new_in c (standing_with (book_verdict old.apps b x) x) (Some y)) on.row
    where
      same : (z : Instance) → slice_get c.instances number ≡ Some z → y ≡ z
      same z there = let both : Some y ≡ Some z = sym stands ∙ there in cc

  won_goes_on : won_at new host (place unit number) ≡ won_at old host (place unit number) + credit_new_at old new host (place unit number)
  won_goes_on = by (unit_at old unit) refl (unit_at new unit) refl
    where
      new_here : Option UnitBook → Option UnitBook → ℕ
      new_here o q =
          cond (unwrap_or (option_and_then (λ (b : UnitBook). option_map (is_owned_by host) (slice_get b.instances number)) q) false)
          (credit_between (unwrap_or (option_map (λ (b : UnitBook). b.unit.credit) q) 0)
          (unwrap_or (option_map (λ b. standing_in old.apps b number) o) no_standing)
          (unwrap_or (option_map (λ b. standing_in new.apps b number) q) no_standing)) 0

      in_unit : (b c : UnitBook) → UnitContinues old new b c → (o : Option Instance) → slice_get b.instances number ≡ o
          → unwrap_or (option_map (credit_of_one new.apps host c) (slice_get c.instances number)) 0
          ≡ unwrap_or (option_map (credit_of_one old.apps host b) o) 0
          + new_in c (unwrap_or (option_map (λ x. standing_with (book_verdict old.apps b x) x) o) no_standing) (slice_get c.instances number)
      in_unit b c on None stood = from_none c (slice_get c.instances number)
      in_unit b c on (Some x) stood = from_some b c on x stood (slice_get c.instances number) refl

      by : (o : Option UnitBook) → unit_at old unit ≡ o → (q : Option UnitBook) → unit_at new unit ≡ q
          → credit_of_unit new.apps host q number ≡ credit_of_unit old.apps host o number + new_here o q
      by None stood None stands = refl
      by None stood (Some c) stands = from_none c (slice_get c.instances number)
      by (Some b) stood None stands = let there = goes.each unit b stood in absurd (let two : None ≡ Some there.0 = sym stands ∙ there.1 in cc)
      by (Some b) stood (Some c) stands =
          let there = goes.each unit b stood in
          let same : there.0 ≡ c = (let both : Some there.0 ≡ Some c = sym there.1 ∙ stands in cc) in
          in_unit b c (subst (UnitContinues old new b) same there.2) (slice_get b.instances number) refl

-- nothing is new if there is no instance
none_at : (old new : World) (host unit number : ℕ) → slice_get (instances_at new unit) number ≡ None → credit_new_at old new host (place unit number) ≡ 0
none_at old new host unit number past =
    ap (λ own. cond own (credit_between (unit_credit new unit) (standing_at old (place unit number)) (standing_at new (place unit number))) 0)
    (by (unit_at new unit) past)
  where
    by : (o : Option UnitBook) → slice_get (unwrap_or (option_map (λ (b : UnitBook). b.instances) o) []) number ≡ None
        → unwrap_or (option_and_then (λ (b : UnitBook). option_map (is_owned_by host) (slice_get b.instances number)) o) false ≡ false
    by None past = refl
    by (Some b) past = ap (λ o. unwrap_or (option_map (is_owned_by host) o) false) past

module _ (old new : World) (goes : CreditContinues old new) (host : ℕ) where
  -- for a workunit the host has what it had, plus what is new
  unit_goes_on : (unit : ℕ) → won_in new host unit ≡ won_in old host unit + unit_credits old new host unit
  unit_goes_on unit =
      let before : ℕ = length (instances_at old unit) in
      let after : ℕ = length (instances_at new unit) in
      let had : ℕ → ℕ = λ i. won_at old host (place unit i) in
      let has_new : ℕ → ℕ = λ i. credit_new_at old new host (place unit i) in
      let turned : after + before ≡ before + after = omega arith in
      let each : (λ i. won_at new host (place unit i)) ≡ (λ i. had i + has_new i) = λ j i. won_goes_on old new goes host unit i j in
      sym (won_in-places new host unit before)
      ∙ ap (λ g. sum_from g 0 (after + before)) each
      ∙ sum_from_plus had has_new 0 (after + before)
      ∙ ap₂ (λ (m n : ℕ). m + n)
      (ap (sum_from had 0) turned ∙ won_in-places old host unit after)
      (sum_placed (credit_new_at old new host) unit 0 (instances_at new unit) before
      (λ i past. ap (λ k. credit_new_at old new host (place unit k)) (zero-add i) ∙ none_at old new host unit i past))

  module _ (units : List ℕ) (touch : TouchJust units old new) where
    old_verdict : (credit : ℕ) (s : Standing) → credit_between credit s s ≡ 0
    old_verdict credit s = by (is_valid s.verdict)
      where
        by : (b : Bool) → cond (b && not b) credit 0 ≡ 0
        by true = refl
        by false = refl

    either : (own : Bool) (n : ℕ) → n ≡ 0 → cond own n 0 ≡ 0
    either true n is = is
    either false n is = refl

    -- what is new belongs to the touched workunits
    untouched : (unit : ℕ) → is_among units unit ≡ false → unit_credits old new host unit ≡ 0
    untouched unit among =
        sum_in-zero (credit_new_at old new host) unit 0 (instances_at new unit) (λ i.
        either (passes new (λ b x. is_owned_by host x) (place unit i)) _
        (ap (credit_between (unit_credit new unit) (standing_at old (place unit i))) (stands_as_before units old new touch unit among i)
        ∙ old_verdict (unit_credit new unit) (standing_at old (place unit i))))

    beyond : (m : ℕ) → length new.units < m → unit_credits old new host m ≡ 0
    beyond zero far = absurd (omega arith)
    beyond (suc m) far =
        ap (λ o. sum_by (credit_new_at old new host) (places_in (suc m) 0 (λ x. true) (unwrap_or (option_map (λ (b : UnitBook). b.instances) o) [])))
        (nth-suc new.units m ∙ slice_get_past new.units m (omega arith))

    all_new : (more : ℕ) → sum_from (unit_credits old new host) 1 (length new.units + more) ≡ sum_by (unit_credits old new host) units
    all_new more =
        at_one (unit_credits old new host) (length new.units + more) refl
        ∙ sum_of_some (unit_credits old new host) (suc (length new.units + more)) 0 units touch.rising (from_zero units)
        (λ m low among. untouched m among) (λ m far. beyond m (omega arith))

    goes_on_by : host_credit new host ≡ host_credit old host + sum_by (unit_credits old new host) units
    goes_on_by =
        let before : ℕ = length old.units in
        let after : ℕ = length new.units in
        let turned : after + before ≡ before + after = omega arith in
        let each : won_in new host ≡ (λ unit. won_in old host unit + unit_credits old new host unit) = λ j unit. unit_goes_on unit j in
        sym (host_credit-units new host before)
        ∙ ap (λ g. sum_from g 1 (after + before)) each
        ∙ sum_from_plus (won_in old host) (unit_credits old new host) 1 (after + before)
        ∙ ap₂ (λ (m n : ℕ). m + n)
        (ap (sum_from (won_in old host) 1) turned ∙ host_credit-units old host after)
        (all_new before)

-- so a host has what it had, plus what the scores bring
pub host_credit-scored : (old new : World) (scores : List Score) → AreScores old new scores → CreditContinues old new → (host : ℕ)
    → host_credit new host ≡ host_credit old host + credits_in scores host
host_credit-scored old new scores scored goes host =
    goes_on_by old new goes host scored.units scored.just
    ∙ ap (λ n. host_credit old host + n) (sym (credits_in-scores old new scored.units host) ∙ ap (λ ms. credits_in ms host) (sym scored.are))
