-- The good reports of a workunit stay in their order, and later ones come after them.
use Rattle.std.proofs.Common.{◌≡◌, ℕ, suc, ◌+◌, ◌<◌, ◌≤◌, ◌⊎◌, inl, inr, Bool, true, false, cond, List, [], ◌∷◌, ◌++◌, Option, Some, None, sym, refl, ap, ◌∙◌, subst, zero-add, arith}
use Rattle.std.proofs.lemmas.Bool.{and_parts}
use Rattle.std.specs.Prelude.{not, fold, nat_le, is_some, slice_get, option_and_then}
use borrow.Author.Tests.{le-leb, lt-leb}
use Rattle.sched_book.specs.Count.{tells_success, tells_error, is_judged, reported_place, is_live, report_of, place_of, numbers_from, put_by, good}
use Rattle.sched_book.specs.Places.{is_owned_by}
use Rattle.sched_book.specs.declared.instance.Instance.{Instance}
use Rattle.sched_book.specs.declared.instance.Outcome.{Outcome}
use Rattle.sched_book.proofs.GoodReports.{put_step}

-- a report of a judged success or client error is judged
pub success_is_judged : (o : Option Outcome) → tells_success o ≡ true → is_some (option_and_then (λ (t : Outcome). t.place) o) ≡ true
success_is_judged None is = absurd cc
success_is_judged (Some t) is = (and_parts t.success (is_some t.place) is).1

pub error_is_judged : (o : Option Outcome) → tells_error o ≡ true → is_some (option_and_then (λ (t : Outcome). t.place) o) ≡ true
error_is_judged None is = absurd cc
error_is_judged (Some t) is = (and_parts (not t.success) (is_some t.place) is).1

-- the report of the instance at a number
report_here : (zs : List Instance) (k : ℕ) (z : Instance) → slice_get zs (k + 0) ≡ Some z → report_of zs k ≡ z.report
report_here zs k z there =
    ap (λ i. option_and_then (λ (y : Instance). y.report) (slice_get zs i)) (let same : k ≡ k + 0 = omega arith in same)
    ∙ ap (option_and_then (λ (y : Instance). y.report)) there

-- An instance and what it became, if n reports were judged before and the workunit had failed or not. Its report stays.
-- A new report that is judged has a later place, and is of no failed workunit.
abbrev pub IsLate : ℕ → Bool → Instance → Type 0
IsLate n failed y = is_judged y ≡ true → (n < reported_place y.report) × (failed ≡ false)

abbrev pub IsReported : ℕ → Bool → Instance → Instance → Type 0
IsReported n failed x y = (y.report ≡ x.report) ⊎ ((x.report ≡ None) × IsLate n failed y)

-- it is live only if it was live before, and stays with its owner
pub record Became (n : ℕ) (failed : Bool) (x y : Instance) : Type 0 where
  pub report : IsReported n failed x y
  pub live : is_live y ≡ true → is_live x ≡ true
  pub owned : (host : ℕ) → is_owned_by host x ≡ true → is_owned_by host y ≡ true

-- the instance at a number, and the one there later
abbrev pub BecameAt : ℕ → Bool → Option Instance → Option Instance → Type 0
BecameAt n failed None None = Unit {0}
BecameAt n failed None (Some y) = IsLate n failed y
BecameAt n failed (Some x) None = ⊥
BecameAt n failed (Some x) (Some y) = Became n failed x y

abbrev pub AllBecame : ℕ → Bool → List Instance → List Instance → Type 0
AllBecame n failed xs ys = (i : ℕ) → BecameAt n failed (slice_get xs i) (slice_get ys i)

-- a property of each number of a list
abbrev pub Each : (ℕ → Type 0) → List ℕ → Type 0
Each P [] = Unit {0}
Each P (i ∷ is) = P i × Each P is

-- a property of each number still holds of each with one more
each_put : (P : ℕ → Type 0) (key : ℕ → ℕ) (js : List ℕ) (i : ℕ) → Each P js → P i → Each P (put_by key js i)
each_put P key [] i each new = (new, tt)
each_put P key (j ∷ js) i each new = cases (each_put P key js i each.1 new) (nat_le (key j) (key i)) refl
  where
    cases : Each P (put_by key js i) → (b : Bool) → nat_le (key j) (key i) ≡ b → Each P (put_by key (j ∷ js) i)
    cases rest true is = subst (Each P) (sym (put_step key j js i true is)) (each.0, rest)
    cases rest false is = subst (Each P) (sym (put_step key j js i false is)) (new, each)

-- These instances became the others, after n reports were judged.
module _ (xs ys : List Instance) (n : ℕ) where
  -- the report of this number is as it was, and has one of the earlier places
  abbrev pub IsOld : ℕ → Type 0
  IsOld j = (report_of ys j ≡ report_of xs j) × (place_of xs j ≤ n)

  abbrev ComesLater : ℕ → Type 0
  ComesLater j = n < place_of ys j

  same_place : (j : ℕ) → IsOld j → place_of ys j ≡ place_of xs j
  same_place j old = ap reported_place old.0

  -- an old report is inserted among the old ones
  put_old : (old late : List ℕ) (i : ℕ) → Each IsOld old → Each ComesLater late → IsOld i
      → put_by (place_of ys) (old ++ late) i ≡ put_by (place_of xs) old i ++ late
  put_old [] [] i each more is = refl
  put_old [] (j ∷ js) i each more is =
      let low : place_of xs i ≤ n = is.1 in
      let same : place_of ys i ≡ place_of xs i = same_place i is in
      let high : n < place_of ys j = more.0 in
      put_step (place_of ys) j js i false (lt-leb (place_of ys j) (place_of ys i) (omega arith))
  put_old (j ∷ js) late i each more is = cases (put_old js late i each.1 more is) (nat_le (place_of xs j) (place_of xs i)) refl
    where
      same : nat_le (place_of ys j) (place_of ys i) ≡ nat_le (place_of xs j) (place_of xs i)
      same = ap (λ m. nat_le m (place_of ys i)) (same_place j each.0) ∙ ap (λ m. nat_le (place_of xs j) m) (same_place i is)

      cases : put_by (place_of ys) (js ++ late) i ≡ put_by (place_of xs) js i ++ late → (b : Bool) → nat_le (place_of xs j) (place_of xs i) ≡ b
          → put_by (place_of ys) (j ∷ js ++ late) i ≡ put_by (place_of xs) (j ∷ js) i ++ late
      cases rest true low =
          put_step (place_of ys) j (js ++ late) i true (same ∙ low)
          ∙ ap (λ is. j ∷ is) rest
          ∙ ap (λ is. is ++ late) (sym (put_step (place_of xs) j js i true low))
      cases rest false high =
          put_step (place_of ys) j (js ++ late) i false (same ∙ high)
          ∙ ap (λ is. is ++ late) (sym (put_step (place_of xs) j js i false high))

  -- a late report is inserted after the old ones
  put_late : (old late : List ℕ) (i : ℕ) → Each IsOld old → ComesLater i
      → put_by (place_of ys) (old ++ late) i ≡ old ++ put_by (place_of ys) late i
  put_late [] late i each is = refl
  put_late (j ∷ js) late i each is =
      let low : place_of xs j ≤ n = each.0.1 in
      let same : place_of ys j ≡ place_of xs j = same_place j each.0 in
      let high : n < place_of ys i = is in
      put_step (place_of ys) j (js ++ late) i true (le-leb (place_of ys j) (place_of ys i) (omega arith))
      ∙ ap (λ is. j ∷ is) (put_late js late i each.1 is)

  -- What is inserted of some numbers later: what was inserted of them before, and more after it.
  record Goes (failed : Bool) (old late was now : List ℕ) : Type 0 where
    more : List ℕ
    is : fold (put_by (place_of ys)) (old ++ late) now ≡ fold (put_by (place_of xs)) old was ++ more
    each : Each IsOld (fold (put_by (place_of xs)) old was)
    none : failed ≡ true → late ≡ [] → more ≡ []

  abbrev success : Instance → Bool
  success x = tells_success x.report

  -- no number, and one more that is old or late
  nothing : (failed : Bool) (old late : List ℕ) → Each IsOld old → Goes failed old late [] []
  nothing failed old late each = record { more = late; is = refl; each = each; none = λ is empty. empty }

  goes_old : (failed : Bool) (old late was now : List ℕ) (i : ℕ) → Each IsOld old → Each ComesLater late → IsOld i
      → Goes failed (put_by (place_of xs) old i) late was now → Goes failed old late (i ∷ was) (i ∷ now)
  goes_old failed old late was now i each more is rest = record {
    more = rest.more;
    is = ap (λ js. fold (put_by (place_of ys)) js now) (put_old old late i each more is) ∙ rest.is;
    each = rest.each;
    none = rest.none;
  }

  goes_late : (old late was now : List ℕ) (i : ℕ) → Each IsOld old → ComesLater i
      → Goes false old (put_by (place_of ys) late i) was now → Goes false old late was (i ∷ now)
  goes_late old late was now i each is rest = record {
    more = rest.more;
    is = ap (λ js. fold (put_by (place_of ys)) js now) (put_late old late i each is) ∙ rest.is;
    each = rest.each;
    none = λ is. absurd cc;
  }

  -- an instance that is new or had no report, if the others continue in this way
  more_heads : (failed : Bool) (k : ℕ) (y : Instance) (us vs : List Instance) (old late : List ℕ)
      → slice_get ys (k + 0) ≡ Some y → IsLate n failed y → Each IsOld old → Each ComesLater late
      → ((later : List ℕ) → Each ComesLater later → Goes failed old later (numbers_from (k + 1) success us) (numbers_from (k + 1) success vs))
      → Goes failed old late (numbers_from (k + 1) success us) (numbers_from k success (y ∷ vs))
  more_heads failed k y us vs old late second judged each more rest = cases (success y) refl
    where
      was : List ℕ
      was = numbers_from (k + 1) success us

      now : List ℕ
      now = numbers_from (k + 1) success vs

      y_here : report_of ys k ≡ y.report
      y_here = report_here ys k y second

      cases : (b : Bool) → success y ≡ b → Goes failed old late was (cond (success y) (k ∷ now) now)
      cases false is = subst (λ (d : Bool). Goes failed old late was (cond d (k ∷ now) now)) (sym is) (rest late more)
      cases true is =
          let new = judged (success_is_judged y.report is) in
          let here : ComesLater k = subst (λ o. n < reported_place o) (sym y_here) new.0 in
          subst (λ (d : Bool). Goes failed old late was (cond d (k ∷ now) now)) (sym is)
          (subst (λ (f : Bool). Goes f old late was (k ∷ now)) (sym new.1)
          (goes_late old late was now k each here
          (subst (λ (f : Bool). Goes f old (put_by (place_of ys) late k) was now) new.1
          (rest (put_by (place_of ys) late k) (each_put ComesLater (place_of ys) late k more here)))))

  -- an instance and what it became, if the others continue in this way
  heads : (failed : Bool) (k : ℕ) (x y : Instance) (us vs : List Instance) (old late : List ℕ)
      → slice_get xs (k + 0) ≡ Some x → slice_get ys (k + 0) ≡ Some y → (success x ≡ true → reported_place x.report ≤ n)
      → IsReported n failed x y → Each IsOld old → Each ComesLater late
      → ((older later : List ℕ) → Each IsOld older → Each ComesLater later → Goes failed older later (numbers_from (k + 1) success us) (numbers_from (k + 1) success vs))
      → Goes failed old late (numbers_from k success (x ∷ us)) (numbers_from k success (y ∷ vs))
  heads failed k x y us vs old late first second low reported each more rest = elim reported [
    | inl same ↦ kept same (success x) refl
    | inr new ↦ newly new.0 new.1
  ]
    where
      was : List ℕ
      was = numbers_from (k + 1) success us

      now : List ℕ
      now = numbers_from (k + 1) success vs

      x_here : report_of xs k ≡ x.report
      x_here = report_here xs k x first

      y_here : report_of ys k ≡ y.report
      y_here = report_here ys k y second

      both : (b c : Bool) → success x ≡ b → success y ≡ c → Goes failed old late (cond b (k ∷ was) was) (cond c (k ∷ now) now)
          → Goes failed old late (numbers_from k success (x ∷ us)) (numbers_from k success (y ∷ vs))
      both b c first_is second_is goes =
          subst (λ (d : Bool). Goes failed old late (cond d (k ∷ was) was) (numbers_from k success (y ∷ vs))) (sym first_is)
          (subst (λ (d : Bool). Goes failed old late (cond b (k ∷ was) was) (cond d (k ∷ now) now)) (sym second_is) goes)

      kept : y.report ≡ x.report → (b : Bool) → success x ≡ b
          → Goes failed old late (numbers_from k success (x ∷ us)) (numbers_from k success (y ∷ vs))
      kept same true is =
          let here : IsOld k = (y_here ∙ same ∙ sym x_here, subst (λ o. reported_place o ≤ n) (sym x_here) (low is)) in
          both true true is (ap tells_success same ∙ is)
          (goes_old failed old late was now k each more here (rest (put_by (place_of xs) old k) late (each_put IsOld (place_of xs) old k each here) more))
      kept same false is = both false false is (ap tells_success same ∙ is) (rest old late each more)

      newly : x.report ≡ None → IsLate n failed y → Goes failed old late (numbers_from k success (x ∷ us)) (numbers_from k success (y ∷ vs))
      newly none judged =
          subst (λ (d : Bool). Goes failed old late (cond d (k ∷ was) was) (numbers_from k success (y ∷ vs))) (sym (ap tells_success none))
          (more_heads failed k y us vs old late second judged each more (λ later. rest old later each))

  -- the instances from number k on; the places of the judged ones are in range
  go : (failed : Bool) (k : ℕ) (us vs : List Instance) (old late : List ℕ)
      → ((i : ℕ) → slice_get xs (k + i) ≡ slice_get us i) → ((i : ℕ) → slice_get ys (k + i) ≡ slice_get vs i)
      → ((i : ℕ) (x : Instance) → slice_get us i ≡ Some x → success x ≡ true → reported_place x.report ≤ n)
      → AllBecame n failed us vs → Each IsOld old → Each ComesLater late
      → Goes failed old late (numbers_from k success us) (numbers_from k success vs)
  go failed k [] [] old late first second low became each more = nothing failed old late each
  go failed k (x ∷ us) [] old late first second low became each more = absurd (became 0)
  go failed k [] (y ∷ vs) old late first second low became each more =
      more_heads failed k y [] vs old late (second 0) (became 0) each more
      (λ later second_each.
      go failed (k + 1) [] vs old later
      (λ i. ap (slice_get xs) (let same : k + 1 + i ≡ k + suc i = omega arith in same) ∙ first (suc i))
      (λ i. ap (slice_get ys) (let same : k + 1 + i ≡ k + suc i = omega arith in same) ∙ second (suc i))
      low (λ i. became (suc i)) each second_each)
  go failed k (x ∷ us) (y ∷ vs) old late first second low became each more =
      heads failed k x y us vs old late (first 0) (second 0) (low 0 x refl) (became 0).report each more
      (λ older later first_each second_each.
      go failed (k + 1) us vs older later
      (λ i. ap (slice_get xs) (let same : k + 1 + i ≡ k + suc i = omega arith in same) ∙ first (suc i))
      (λ i. ap (slice_get ys) (let same : k + 1 + i ≡ k + suc i = omega arith in same) ∙ second (suc i))
      (λ i. low (suc i)) (λ i. became (suc i)) first_each second_each)

-- The good reports: those from before, each as it was, and more after them; none more if the workunit had failed.
pub record Continues (failed : Bool) (xs ys : List Instance) : Type 0 where
  pub more : List ℕ
  pub is : good ys ≡ good xs ++ more
  pub same : Each (λ j. report_of ys j ≡ report_of xs j) (good xs)
  pub none : failed ≡ true → more ≡ []

-- what follows of each number
pub each_more : (P Q : ℕ → Type 0) → ((i : ℕ) → P i → Q i) → (is : List ℕ) → Each P is → Each Q is
each_more P Q makes [] each = tt
each_more P Q makes (i ∷ is) each = (makes i each.0, each_more P Q makes is each.1)

-- they continue if each new report has a later place
pub good_continues : (n : ℕ) (failed : Bool) (xs ys : List Instance)
    → ((i : ℕ) (x : Instance) → slice_get xs i ≡ Some x → tells_success x.report ≡ true → reported_place x.report ≤ n)
    → AllBecame n failed xs ys → Continues failed xs ys
good_continues n failed xs ys low became =
    let goes = go xs ys n failed 0 xs ys [] [] (λ i. ap (slice_get xs) (zero-add i)) (λ i. ap (slice_get ys) (zero-add i)) low became tt tt in
    record {
      more = goes.more;
      is = goes.is;
      same = each_more (IsOld xs ys n) (λ j. report_of ys j ≡ report_of xs j) (λ j old. old.0) (good xs) goes.each;
      none = λ is. goes.none is refl;
    }
