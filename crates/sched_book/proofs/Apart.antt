-- A report that agrees with none before it, by its output and by whole numbers in order.
use Rattle.std.proofs.Common.{◌≡◌, ℕ, ◌+◌, ◌<◌, Bool, true, false, cond, List, [], ◌∷◌, length, take, get_or, Option, None, Some, ℤ, true≢false, refl, sym, ap, ◌∙◌, subst}
use Rattle.std.specs.Prelude.{◌||◌, find}
use Rattle.std.specs.List.{All, Contains}
use Rattle.std.specs.Str.{bytes_eq}
use Rattle.std.proofs.lemmas.List.{take_more}
use Rattle.std.proofs.lemmas.List.Elements.{All-nil, All-cons, All-weaker, All-append, All-contains}
use Rattle.std.proofs.lemmas.Option.{none-some}
use Rattle.std.proofs.lemmas.Slice.Eq.{bytes_eq-Decides}
use Rattle.sched_book.proofs.Voting.{near}
use Rattle.sched_book.specs.Alike.{first_with}
use Rattle.sched_book.specs.Ballots.{AreNumbersOf}
use Rattle.sched_book.specs.Count.{agree, output_of}
use Rattle.sched_book.specs.Limits.{distance_of}
use Rattle.sched_book.specs.Near.{number_in, AreRising, NoneNear}
use Rattle.sched_book.specs.WholeNumbers.{whole_number, are_within}
use Rattle.sched_book.specs.declared.instance.Instance.{Instance}
use Rattle.sched_book.specs.declared.rows.Agreement.{Agreement}
use Rattle.sched_book.specs.declared.rows.Agreement.TheVariants.{Exact, Within}

-- if none is found, none passes
none_passes : (p : ℕ → Bool) (is : List ℕ) → find p is ≡ None → All (λ i. p i ≡ false) is
none_passes p [] none = All-nil (λ i. p i ≡ false)
none_passes p (i ∷ is) none = cases (p i) refl (none_passes p is) none
  where
    cases : (b : Bool) → p i ≡ b → (find p is ≡ None → All (λ j. p j ≡ false) is) → cond b (Some i) (find p is) ≡ None → All (λ j. p j ≡ false) (i ∷ is)
    cases true here later found = absurd (none-some i (sym found))
    cases false here later rest = All-cons (λ j. p j ≡ false) i is here (later rest)

module _ (a : Agreement) (xs : List Instance) (before : List ℕ) (v : ℕ) (numbers : List ℤ) (are : AreNumbersOf a xs before numbers) where
  -- the whole number of a report before it is not near its own
  apart_by_number : NoneNear (distance_of a) (number_in a (output_of xs v)) numbers
      → All (λ i. are_within (distance_of a) (number_in a (output_of xs i)) (number_in a (output_of xs v)) ≡ false) before
  apart_by_number far =
      All-weaker (λ i. (m : ℤ) → number_in a (output_of xs i) ≡ Some m → Contains numbers m)
      (λ i. are_within (distance_of a) (number_in a (output_of xs i)) (number_in a (output_of xs v)) ≡ false)
      (λ i known. cases (number_in a (output_of xs i)) known) before are.all
    where
      cases : (o : Option ℤ) → ((m : ℤ) → o ≡ Some m → Contains numbers m) → are_within (distance_of a) o (number_in a (output_of xs v)) ≡ false
      cases None known = refl
      cases (Some m) known = All-contains (λ k. are_within (distance_of a) (Some k) (number_in a (output_of xs v)) ≡ false) numbers m far (known m refl)

-- a text that is new agrees with none
pub text_agrees_with_none : (a : Agreement) (xs : List Instance) (before : List ℕ) (v : ℕ) → number_in a (output_of xs v) ≡ None
    → first_with xs before (output_of xs v) ≡ None → All (λ i. agree a (output_of xs i) (output_of xs v) ≡ false) before
text_agrees_with_none Exact xs before v text new = none_passes (λ i. bytes_eq (output_of xs i) (output_of xs v)) before new
text_agrees_with_none (Within d) xs before v text new = λ k i inside.
    let j = get_or before k i in
    ap (λ (b : Bool). b || are_within d (whole_number (output_of xs j)) (whole_number (output_of xs v)))
    (none_passes (λ i. bytes_eq (output_of xs i) (output_of xs v)) before new k i inside)
    ∙ ap (are_within d (whole_number (output_of xs j))) text
    ∙ cases (whole_number (output_of xs j))
  where
    cases : (o : Option ℤ) → are_within d o None ≡ false
    cases None = refl
    cases (Some m) = refl

-- a number that is far from all agrees with none: an output that is the same would be a number that is near
pub number_agrees_with_none : (a : Agreement) (xs : List Instance) (before : List ℕ) (v : ℕ) (m : ℤ) (numbers : List ℤ) → AreNumbersOf a xs before numbers
    → number_in a (output_of xs v) ≡ Some m → NoneNear (distance_of a) (Some m) numbers
    → All (λ i. agree a (output_of xs i) (output_of xs v) ≡ false) before
number_agrees_with_none Exact xs before v m numbers are number far = absurd (none-some m number)
number_agrees_with_none (Within d) xs before v m numbers are number far = λ k i inside.
    let j = get_or before k i in
    let apart = apart_by_number (Within d) xs before v numbers are (subst (λ o. NoneNear d o numbers) (sym number) far) k i inside in
    ap (λ (b : Bool). b || are_within d (whole_number (output_of xs j)) (whole_number (output_of xs v))) (differs (output_of xs j) apart)
    ∙ apart
  where
    itself : are_within d (whole_number (output_of xs v)) (whole_number (output_of xs v)) ≡ true
    itself = (λ t. are_within d (number t) (number t)) ∙ near d m

    differs : (x : List ℕ) → are_within d (whole_number x) (whole_number (output_of xs v)) ≡ false → bytes_eq x (output_of xs v) ≡ false
    differs x apart = cases (bytes_eq x (output_of xs v)) refl
      where
        cases : (b : Bool) → bytes_eq x (output_of xs v) ≡ b → b ≡ false
        cases false is = refl
        cases true is =
            let same : x ≡ output_of xs v = (bytes_eq-Decides x (output_of xs v)).0 is in
            absurd (true≢false (sym itself ∙ ap (λ text. are_within d (whole_number text) (whole_number (output_of xs v))) (sym same) ∙ apart))

-- the numbers, once a report has joined
pub numbers_join : (a : Agreement) (xs : List Instance) (reports : List ℕ) (n : ℕ) (numbers news : List ℤ) → n < length reports
    → AreNumbersOf a xs (take n reports) numbers → AreRising news → ((m : ℤ) → Contains numbers m → Contains news m)
    → ((m : ℤ) → number_in a (output_of xs (get_or reports n 0)) ≡ Some m → Contains news m) → AreNumbersOf a xs (take (n + 1) reports) news
numbers_join a xs reports n numbers news within are rising kept added =
    let Known = λ (i : ℕ). (m : ℤ) → number_in a (output_of xs i) ≡ Some m → Contains news m in
    record {
      rising = rising;
      all = subst (All Known) (sym (take_more reports n 0 within))
          (All-append Known (take n reports) (get_or reports n 0 ∷ [])
          (All-weaker (λ i. (m : ℤ) → number_in a (output_of xs i) ≡ Some m → Contains numbers m) Known (λ i known m is. kept m (known m is)) (take n reports) are.all)
          (All-cons Known (get_or reports n 0) [] added (All-nil Known)));
    }
