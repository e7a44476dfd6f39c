-- The standings of the instances of a workunit, and what their scores add up to.
use Rattle.std.proofs.Common.{◌≡◌, ℕ, suc, ◌+◌, Bool, true, false, cond, eqb, List, [], ◌∷◌, map, Option, Some, None, sym, refl, ap, ◌∙◌, arith}
use Rattle.std.specs.Prelude.{◌==◌, ◌&&◌, not, if◌then◌else◌, sum_by, option_map, option_and_then, unwrap_or, slice_get}
use Rattle.std.proofs.lemmas.Bool.{eqb-true}
use Rattle.std.proofs.lemmas.List.Sums.{sum_by-cons, sum_by-append}
use Rattle.std.proofs.lemmas.Option.{slice_get-map}
use Rattle.sched_book.specs.Count.{is_valid}
use Rattle.sched_book.specs.Places.{unit_at, agreement_of, book_verdict, passes, places_in, option_any, is_owned_by}
use Rattle.sched_book.specs.Desk.{instances_at}
use Rattle.sched_book.specs.declared.instance.Instance.{Instance}
use Rattle.sched_book.specs.declared.instance.Owner.{Owner}
use Rattle.sched_book.specs.declared.instance.Place.{Place}
use Rattle.sched_book.specs.declared.instance.UnitBook.{UnitBook}
use Rattle.sched_book.specs.declared.instance.Verdict.{Verdict}
use Rattle.sched_book.specs.declared.world.World.{World}
use Rattle.quorum_credit.specs.Scores.{standing_with, no_standing, standing_in, standing_at, charges_between, merits_between, credit_between, unit_credit, unit_charges, unit_merits, unit_credits, charges_in, merits_in, credits_in}
use Rattle.quorum_credit.specs.Scoring.{owned_standing, standings_in, standings_at, standing_of, score_between, score_of, with_score, scores_from, scores_at, scores_of_units}
use Rattle.quorum_credit.specs.declared.scores.Score.{Score}
use Rattle.quorum_credit.specs.declared.scores.OwnedStanding.{OwnedStanding}
use Rattle.quorum_credit.specs.declared.scores.Standing.{Standing}

-- the listed standings are those of the places
standing_of-at : (w : World) (unit number : ℕ) → standing_of (standings_at w unit) number ≡ standing_at w (record { unit = unit; number = number })
standing_of-at w unit number = at (unit_at w unit)
  where
    one : (b : UnitBook) (o : Option Instance)
        → unwrap_or (option_map (λ (s : OwnedStanding). s.standing) (option_map (λ x. owned_standing (book_verdict w.apps b x) x) o)) no_standing
        ≡ unwrap_or (option_map (λ x. standing_with (book_verdict w.apps b x) x) o) no_standing
    one b None = refl
    one b (Some x) = refl

    at : (o : Option UnitBook)
        → standing_of (unwrap_or (option_map (λ (b : UnitBook). standings_in (agreement_of w b) b.unit b.instances) o) []) number
        ≡ unwrap_or (option_map (λ b. standing_in w.apps b number) o) no_standing
    at None = refl
    at (Some b) =
        ap (λ o. unwrap_or (option_map (λ (s : OwnedStanding). s.standing) o) no_standing)
        (slice_get-map (λ x. owned_standing (book_verdict w.apps b x) x) b.instances number)
        ∙ one b (slice_get b.instances number)

-- what scores say of a host, by one number of a score
abbrev said : (Score → ℕ) → ℕ → List Score → ℕ
said count host scores = sum_by (λ (m : Score). if m.host == host then count m else 0) scores

-- what is new at a place, by the same number
abbrev new_at : (ℕ → Standing → Standing → ℕ) → World → World → ℕ → Place → ℕ
new_at between old new host p =
    if passes new (λ b x. is_owned_by host x) p then between (unit_credit new p.unit) (standing_at old p) (standing_at new p) else 0

-- This number of a score is what is new, in a workunit of some credit. If nothing counts, it is 0.
record Counts (count : Score → ℕ) (between : ℕ → Standing → Standing → ℕ) : Type 0 where
  counted : (credit host : ℕ) (a b : Standing) → count (score_between credit host a b) ≡ between credit a b
  none : (credit : ℕ) (a b : Standing) → charges_between a b ≡ 0 → merits_between a b ≡ 0 → between credit a b ≡ 0

-- the score of one instance
said-score : (count : Score → ℕ) (between : ℕ → Standing → Standing → ℕ) → Counts count between
    → (host credit : ℕ) (a : Standing) (v : Option Verdict) (x : Instance) (scores : List Score)
    → said count host (with_score (score_of credit a (owned_standing v x)) scores)
    ≡ (if is_owned_by host x then between credit a (standing_with v x) else 0) + said count host scores
said-score count between counts host credit a v x scores = at x.owner
  where
    s : Standing
    s = standing_with v x

    nothing : (own : Bool) (k n : ℕ) → k ≡ 0 → n ≡ cond own k 0 + n
    nothing true k n none = omega arith
    nothing false k n none = omega arith

    kept : (o : Owner) → said count host (score_between credit o.host a s ∷ scores) ≡ cond (eqb o.host host) (between credit a s) 0 + said count host scores
    kept o =
        sum_by-cons _ _ scores
        ∙ ap (λ n. cond (eqb o.host host) n 0 + said count host scores) (counts.counted credit o.host a s)

    -- a score that counts nothing is left out
    one : (o : Owner) (c m : Bool) → eqb (charges_between a s) 0 ≡ c → eqb (merits_between a s) 0 ≡ m
        → said count host (with_score (cond (c && m) None (Some (score_between credit o.host a s))) scores)
        ≡ cond (eqb o.host host) (between credit a s) 0 + said count host scores
    one o true true charges merits =
        nothing (eqb o.host host) (between credit a s) (said count host scores)
        (counts.none credit a s (eqb-true (charges_between a s) 0 charges) (eqb-true (merits_between a s) 0 merits))
    one o true false charges merits = kept o
    one o false m charges merits = kept o

    at : (o : Option Owner)
        → said count host (with_score (score_of credit a (record { owner = o; standing = s })) scores)
        ≡ cond (option_any (λ n. n == host) (option_map (λ (o : Owner). o.host) o)) (between credit a s) 0 + said count host scores
    at None = omega arith
    at (Some o) = one o (eqb (charges_between a s) 0) (eqb (merits_between a s) 0) refl refl

-- what is new at the place of an instance, if its workunit exists in the new world
new_at-is : (between : ℕ → Standing → Standing → ℕ) (old new : World) (host unit number : ℕ) (b : UnitBook) (x : Instance)
    → unit_at new unit ≡ Some b → slice_get b.instances number ≡ Some x
    → (if is_owned_by host x then between (unit_credit new unit) (standing_of (standings_at old unit) number) (standing_with (book_verdict new.apps b x) x) else 0)
    ≡ new_at between old new host (record { unit = unit; number = number })
new_at-is between old new host unit number b x stands here =
    let p : Place = record { unit = unit; number = number } in
    let owned : passes new (λ b x. is_owned_by host x) p ≡ is_owned_by host x =
    ap (λ o. unwrap_or (option_and_then (λ (b : UnitBook). option_map (is_owned_by host) (slice_get b.instances number)) o) false) stands
    ∙ ap (λ o. unwrap_or (option_map (is_owned_by host) o) false) here in
    let after : standing_at new p ≡ standing_with (book_verdict new.apps b x) x =
    ap (λ o. unwrap_or (option_map (λ b. standing_in new.apps b number) o) no_standing) stands
    ∙ ap (λ o. unwrap_or (option_map (λ x. standing_with (book_verdict new.apps b x) x) o) no_standing) here in
    let credit : ℕ = unit_credit new unit in
    ap (λ s. if is_owned_by host x then between credit s (standing_with (book_verdict new.apps b x) x) else 0) (standing_of-at old unit number)
    ∙ ap (λ s. if is_owned_by host x then between credit (standing_at old p) s else 0) (sym after)
    ∙ ap (λ (o : Bool). if o then between credit (standing_at old p) (standing_at new p) else 0) (sym owned)

-- the scores of its instances, from a number on
said-from : (count : Score → ℕ) (between : ℕ → Standing → Standing → ℕ) → Counts count between
    → (old new : World) (host unit : ℕ) (b : UnitBook) → unit_at new unit ≡ Some b
    → (number : ℕ) (xs : List Instance) → ((i : ℕ) → slice_get b.instances (number + i) ≡ slice_get xs i)
    → said count host (scores_from (unit_credit new unit) (standings_at old unit) number (map (λ x. owned_standing (book_verdict new.apps b x) x) xs))
    ≡ sum_by (new_at between old new host) (places_in unit number (λ x. true) xs)
said-from count between counts old new host unit b stands number [] left = refl
said-from count between counts old new host unit b stands number (x ∷ xs) left =
    let here : slice_get b.instances number ≡ Some x =
    ap (slice_get b.instances) (let same : number ≡ number + 0 = omega arith in same) ∙ left 0 in
    let further : (i : ℕ) → slice_get b.instances (number + 1 + i) ≡ slice_get xs i =
    λ i. ap (slice_get b.instances) (let same : number + 1 + i ≡ number + suc i = omega arith in same) ∙ left (suc i) in
    let rest : ℕ = sum_by (new_at between old new host) (places_in unit (number + 1) (λ x. true) xs) in
    let credit : ℕ = unit_credit new unit in
    said-score count between counts host credit (standing_of (standings_at old unit) number) (book_verdict new.apps b x) x
    (scores_from credit (standings_at old unit) (number + 1) (map (λ x. owned_standing (book_verdict new.apps b x) x) xs))
    ∙ ap (λ n. (if is_owned_by host x then between credit (standing_of (standings_at old unit) number) (standing_with (book_verdict new.apps b x) x) else 0) + n)
    (said-from count between counts old new host unit b stands (number + 1) xs further)
    ∙ ap (λ n. n + rest) (new_at-is between old new host unit number b x stands here)
    ∙ sym (sum_by-cons (new_at between old new host) (record { unit = unit; number = number }) (places_in unit (number + 1) (λ x. true) xs))

-- the scores of the workunit at a place
said-at : (count : Score → ℕ) (between : ℕ → Standing → Standing → ℕ) → Counts count between → (old new : World) (host unit : ℕ)
    → said count host (scores_at old new unit) ≡ sum_by (new_at between old new host) (places_in unit 0 (λ x. true) (instances_at new unit))
said-at count between counts old new host unit = at (unit_at new unit) refl
  where
    at : (o : Option UnitBook) → unit_at new unit ≡ o
        → said count host (scores_from (unit_credit new unit) (standings_at old unit) 0 (unwrap_or (option_map (λ (b : UnitBook). standings_in (agreement_of new b) b.unit b.instances) o) []))
        ≡ sum_by (new_at between old new host) (places_in unit 0 (λ x. true) (unwrap_or (option_map (λ (b : UnitBook). b.instances) o) []))
    at None stands = refl
    at (Some b) stands =
        said-from count between counts old new host unit b stands 0 b.instances
        (λ i. ap (slice_get b.instances) (let same : 0 + i ≡ i = omega arith in same))

-- the scores of workunits
said-of : (count : Score → ℕ) (between : ℕ → Standing → Standing → ℕ) → Counts count between → (old new : World) (host : ℕ) (units : List ℕ)
    → said count host (scores_of_units old new units)
    ≡ sum_by (λ unit. sum_by (new_at between old new host) (places_in unit 0 (λ x. true) (instances_at new unit))) units
said-of count between counts old new host [] = refl
said-of count between counts old new host (unit ∷ units) =
    sum_by-append (λ (m : Score). if m.host == host then count m else 0) (scores_at old new unit) (scores_of_units old new units)
    ∙ ap (λ n. n + said count host (scores_of_units old new units)) (said-at count between counts old new host unit)
    ∙ ap (λ n. sum_by (new_at between old new host) (places_in unit 0 (λ x. true) (instances_at new unit)) + n)
    (said-of count between counts old new host units)
    ∙ sym (sum_by-cons (λ unit. sum_by (new_at between old new host) (places_in unit 0 (λ x. true) (instances_at new unit))) unit units)

pub charges_in-scores : (old new : World) (units : List ℕ) (host : ℕ)
    → charges_in (scores_of_units old new units) host ≡ sum_by (unit_charges old new host) units
charges_in-scores old new units host = said-of (λ m. m.charges) (λ credit. charges_between) (record { counted = λ credit host a b. refl; none = λ credit a b charges merits. charges }) old new host units

pub merits_in-scores : (old new : World) (units : List ℕ) (host : ℕ)
    → merits_in (scores_of_units old new units) host ≡ sum_by (unit_merits old new host) units
merits_in-scores old new units host = said-of (λ m. m.merits) (λ credit. merits_between) (record { counted = λ credit host a b. refl; none = λ credit a b charges merits. merits }) old new host units

-- if no result is newly valid, there is no new credit
no_credit : (valid : Bool) (credit : ℕ) → cond {A = ℕ} valid 1 0 ≡ 0 → cond valid credit 0 ≡ 0
no_credit true credit none = absurd (omega arith)
no_credit false credit none = refl

pub credits_in-scores : (old new : World) (units : List ℕ) (host : ℕ)
    → credits_in (scores_of_units old new units) host ≡ sum_by (unit_credits old new host) units
credits_in-scores old new units host =
    said-of (λ m. m.credit) credit_between
    (record {
      counted = λ credit host a b. refl;
      none = λ credit a b charges merits. no_credit (is_valid b.verdict && not (is_valid a.verdict)) credit merits;
    }) old new host units
