-- The good reports are the judged successes, each once, by the places of their reports.
use Rattle.std.proofs.Common.{◌≡◌, ◌≢◌, ◌⊎◌, inl, inr, ℕ, zero, suc, ◌+◌, ◌<◌, ◌≤◌, Bool, true, false, cond, List, [], ◌∷◌, Option, Some, None, sym, refl, ap, ◌∙◌, subst, zero-add, arith}
use Rattle.std.specs.Prelude.{fold, insert, nat_le, slice_get, option_and_then, All, AllPairs, Contains}
use Rattle.std.specs.List.{prefix_len}
use Rattle.std.proofs.lemmas.List.Elements.{All-nil, All-cons, All-head, All-tail, All-weaker}
use Rattle.std.proofs.lemmas.List.Kept.{AllPairs-cons}
use Rattle.std.proofs.lemmas.List.Sorted.{All-permutation, Contains-permutation, IsPermutation-insert}
use Rattle.std.proofs.lemmas.Bool.{cases_lt}
use borrow.Author.Tests.{leb-true, leb-false}
use Rattle.sched_book.specs.Count.{tells_success, report_of, place_of, numbers_from, put_by, good}
use Rattle.sched_book.specs.PlaceLaws.{IsJudgedBefore, GoodAreJudgedSuccesses}
use Rattle.sched_book.specs.declared.instance.Instance.{Instance}
use Rattle.sched_book.proofs.Newest.{front_of, behind, in_front, none_in_nothing}
use Rattle.sched_book.proofs.Rising.{RisesFrom, rises_lower, pairs_head, pairs_tail, pairs_nil}

-- a number is inserted after the longest front whose keys are not greater
pub put_step : (key : ℕ → ℕ) (j : ℕ) (js : List ℕ) (i : ℕ) (b : Bool) → nat_le (key j) (key i) ≡ b
    → put_by key (j ∷ js) i ≡ cond b (j ∷ put_by key js i) (i ∷ j ∷ js)
put_step key j js i b is =
    ap (λ (c : Bool). insert (j ∷ js) (cond {A = ℕ} c (1 + prefix_len (λ k. nat_le (key k) (key i)) js) 0) i) is ∙ go b
  where
    go : (c : Bool) → insert (j ∷ js) (cond {A = ℕ} c (1 + prefix_len (λ k. nat_le (key k) (key i)) js) 0) i ≡ cond c (j ∷ put_by key js i) (i ∷ j ∷ js)
    go true =
        let m : ℕ = prefix_len (λ k. nat_le (key k) (key i)) js in
        ap (λ k. insert (j ∷ js) k i) (let same : 1 + m ≡ suc m = omega arith in same)
    go false = refl

-- ---- the numbers of those that pass

module _ (xs : List Instance) where
  abbrev success : Instance → Bool
  success x = tells_success x.report

  abbrev IsGood : ℕ → Type 0
  IsGood i = tells_success (report_of xs i) ≡ true

  here_good : (i : ℕ) (x : Instance) → slice_get xs i ≡ Some x → success x ≡ true → IsGood i
  here_good i x stands pass = ap (λ o. tells_success (option_and_then (λ (z : Instance). z.report) o)) stands ∙ pass

  each_good : (k : ℕ) (us : List Instance) → ((i : ℕ) → slice_get xs (k + i) ≡ slice_get us i) → All IsGood (numbers_from k success us)
  each_good k [] from = All-nil IsGood
  each_good k (u ∷ us) from =
      cases (success u) refl
      (each_good (k + 1) us (λ i. ap (slice_get xs) (let same : k + 1 + i ≡ k + suc i = omega arith in same) ∙ from (suc i)))
    where
      rest : List ℕ
      rest = numbers_from (k + 1) success us

      cases : (b : Bool) → success u ≡ b → All IsGood rest → All IsGood (cond b (k ∷ rest) rest)
      cases false is later = later
      cases true is later =
          All-cons IsGood k rest
          (here_good k u (ap (slice_get xs) (let same : k ≡ k + 0 = omega arith in same) ∙ from 0) is) later

  none_left_out : (k : ℕ) (us : List Instance) (i : ℕ) (x : Instance) (n : ℕ) → slice_get us i ≡ Some x → success x ≡ true → n ≡ k + i
      → Contains (numbers_from k success us) n
  none_left_out k [] i x n found pass is = absurd (let never : None ≡ Some x = found in cc)
  none_left_out k (u ∷ us) zero x n found pass is =
      let same : n ≡ k = omega arith in
      let here : u ≡ x = (let s : Some u ≡ Some x = found in cc) in
      subst (Contains (numbers_from k success (u ∷ us))) (sym same) (kept (success u) (ap success here ∙ pass))
    where
      rest : List ℕ
      rest = numbers_from (k + 1) success us

      kept : (b : Bool) → b ≡ true → Contains (cond b (k ∷ rest) rest) k
      kept true is = front_of k rest
      kept false is = absurd cc
  none_left_out k (u ∷ us) (suc i) x n found pass is = more (success u) (none_left_out (k + 1) us i x n found pass (omega arith))
    where
      rest : List ℕ
      rest = numbers_from (k + 1) success us

      more : (b : Bool) → Contains rest n → Contains (cond b (k ∷ rest) rest) n
      more true there = behind k rest n there
      more false there = there

  numbers_rise : (k : ℕ) (us : List Instance) → RisesFrom k (numbers_from k success us)
  numbers_rise k [] = tt
  numbers_rise k (u ∷ us) = cases (success u) (numbers_rise (k + 1) us)
    where
      rest : List ℕ
      rest = numbers_from (k + 1) success us

      cases : (b : Bool) → RisesFrom (k + 1) rest → RisesFrom k (cond b (k ∷ rest) rest)
      cases true rises = ((let least : k ≤ k = omega arith in least), rises)
      cases false rises = rises_lower k (k + 1) rest (omega arith) rises

  -- ---- each is inserted at its place

  abbrev put : List ℕ → ℕ → List ℕ
  put is i = put_by (place_of xs) is i

  all_put : (P : ℕ → Type 0) (is : List ℕ) (i : ℕ) → All P is → P i → All P (put is i)
  all_put P is i all new =
      let at : ℕ = prefix_len (λ j. nat_le (place_of xs j) (place_of xs i)) is in
      All-permutation P (i ∷ is) (insert is at i) (IsPermutation-insert is at i) (All-cons P i is new all)

  among_put : (is : List ℕ) (i j : ℕ) → Contains (i ∷ is) j → Contains (put is i) j
  among_put is i j there =
      let at : ℕ = prefix_len (λ j. nat_le (place_of xs j) (place_of xs i)) is in
      Contains-permutation (i ∷ is) (insert is at i) j (IsPermutation-insert is at i) there

  -- one is judged before another, and a third has a lesser place than the first
  before_both : (i j k : ℕ) → place_of xs i < place_of xs j → IsJudgedBefore xs j k → IsJudgedBefore xs i k
  before_both i j k less (inl more) = inl (omega (arith, more))
  before_both i j k less (inr same) = inl (let equal : place_of xs j ≡ place_of xs k = same.0 in omega arith)

  pairs_put : (js : List ℕ) (i : ℕ) → AllPairs (IsJudgedBefore xs) js → All (λ j. j < i) js → AllPairs (IsJudgedBefore xs) (put js i)
  pairs_put [] i pairs below = AllPairs-cons (IsJudgedBefore xs) i [] (All-nil (IsJudgedBefore xs i)) (pairs_nil (IsJudgedBefore xs))
  pairs_put (j ∷ js) i pairs below =
      cases (nat_le (place_of xs j) (place_of xs i)) refl
      (pairs_put js i (pairs_tail (IsJudgedBefore xs) j js pairs) (All-tail (λ j. j < i) j js below))
    where
      head : All (IsJudgedBefore xs j) js
      head = pairs_head (IsJudgedBefore xs) j js pairs

      lower : j < i
      lower = All-head (λ j. j < i) j js below

      first : place_of xs j ≤ place_of xs i → IsJudgedBefore xs j i
      first low = elim (cases_lt (place_of xs j) (place_of xs i)) [ inl less ↦ inl less | inr more ↦ inr ((let same : place_of xs j ≡ place_of xs i = omega arith in same), lower) ]

      cases : (b : Bool) → nat_le (place_of xs j) (place_of xs i) ≡ b → AllPairs (IsJudgedBefore xs) (put js i) → AllPairs (IsJudgedBefore xs) (put (j ∷ js) i)
      cases true is rest =
          subst (AllPairs (IsJudgedBefore xs)) (sym (put_step (place_of xs) j js i true is))
          (AllPairs-cons (IsJudgedBefore xs) j (put js i)
          (all_put (IsJudgedBefore xs j) js i head (first (leb-true _ _ is))) rest)
      cases false is rest =
          let less : place_of xs i < place_of xs j = leb-false _ _ is in
          subst (AllPairs (IsJudgedBefore xs)) (sym (put_step (place_of xs) j js i false is))
          (AllPairs-cons (IsJudgedBefore xs) i (j ∷ js)
          (All-cons (IsJudgedBefore xs i) j js (inl less)
          (All-weaker (IsJudgedBefore xs j) (IsJudgedBefore xs i) (λ k later. before_both i j k less later) js head))
          pairs)

  -- ---- all of them in turn

  all_puts : (P : ℕ → Type 0) (ns done : List ℕ) → All P done → All P ns → All P (fold put done ns)
  all_puts P [] done all more = all
  all_puts P (n ∷ ns) done all more = all_puts P ns (put done n) (all_put P done n all (All-head P n ns more)) (All-tail P n ns more)

  among_puts : (ns done : List ℕ) (j : ℕ) → Contains done j ⊎ Contains ns j → Contains (fold put done ns) j
  among_puts [] done j (inl there) = there
  among_puts [] done j (inr never) = absurd (none_in_nothing j never)
  among_puts (n ∷ ns) done j (inl there) = among_puts ns (put done n) j (inl (among_put done n j (behind n done j there)))
  among_puts (n ∷ ns) done j (inr there) = elim (in_front n ns j there) [
    | inl same ↦ among_puts ns (put done n) j (inl (among_put done n j (subst (Contains (n ∷ done)) same (front_of n done))))
    | inr later ↦ among_puts ns (put done n) j (inr later)
  ]

  pairs_puts : (ns done : List ℕ) (low : ℕ) → RisesFrom low ns → All (λ j. j < low) done → AllPairs (IsJudgedBefore xs) done
      → AllPairs (IsJudgedBefore xs) (fold put done ns)
  pairs_puts [] done low rises below pairs = pairs
  pairs_puts (n ∷ ns) done low rises below pairs =
      let least : low ≤ n = rises.0 in
      pairs_puts ns (put done n) (n + 1) rises.1
      (all_put (λ j. j < n + 1) done n (All-weaker (λ j. j < low) (λ j. j < n + 1) (λ j less. omega arith) done below) (omega arith))
      (pairs_put done n pairs (All-weaker (λ j. j < low) (λ j. j < n) (λ j less. omega arith) done below))

  stands_good : (i : ℕ) → IsGood i → Contains (numbers_from 0 success xs) i
  stands_good i pass = cases (slice_get xs i) refl pass
    where
      cases : (o : Option Instance) → slice_get xs i ≡ o → tells_success (option_and_then (λ (z : Instance). z.report) o) ≡ true
          → Contains (numbers_from 0 success xs) i
      cases None stands pass = absurd cc
      cases (Some x) stands pass = none_left_out 0 xs i x i stands pass (omega arith)

  apart : (i j : ℕ) → IsJudgedBefore xs i j → i ≢ j
  apart i j (inl less) same = let never : place_of xs i < place_of xs i = subst (λ k. place_of xs i < place_of xs k) (sym same) less in omega arith
  apart i j (inr later) same = let less : i < j = later.1 in omega arith

pub good_are_judged_successes : GoodAreJudgedSuccesses
good_are_judged_successes xs =
    let rising : AllPairs (IsJudgedBefore xs) (good xs) =
    pairs_puts xs (numbers_from 0 (success xs) xs) [] 0 (numbers_rise xs 0 xs) (All-nil (λ j. j < 0)) (pairs_nil (IsJudgedBefore xs)) in
    record {
      each = all_puts xs (IsGood xs) (numbers_from 0 (success xs) xs) [] (All-nil (IsGood xs)) (each_good xs 0 xs (λ i. ap (slice_get xs) (zero-add i)));
      none_missed = λ i pass. among_puts xs (numbers_from 0 (success xs) xs) [] i (inr (stands_good xs i pass));
      rising = rising;
      once = λ i j d less within. apart xs _ _ (rising i j d less within);
    }
