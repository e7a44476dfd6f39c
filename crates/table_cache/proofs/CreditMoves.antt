-- The credit of an account moves with the credit of its hosts.
use Rattle.std.proofs.Common.{◌≡◌, ◌<◌, ◌≤◌, ◌+◌, ℕ, zero, suc, Bool, true, false, cond, eqb, arith, List, [], ◌∷◌, length, sum_by, Option, Some, None, refl, sym, ◌∙◌, inl, inr, ap}
use Rattle.std.specs.Prelude.{IfSome, option_map, slice_get, unwrap_or}
use Rattle.std.specs.BTreeMap.{get}
use Rattle.std.specs.List.{enumerate_from, range_with_len}
use Rattle.std.specs.Ordering.{nat_cmp}
use Rattle.std.specs.declared.cmp.Ordering.{Ordering}
use Rattle.std.proofs.lemmas.Bool.Decides.{nat_tests}
use Rattle.std.proofs.lemmas.List.FromFn.{length-enumerate_from}
use Rattle.std.proofs.lemmas.List.Sums.{sum_by-cons}
use Rattle.sched_book.specs.Places.{nth, held_by, host_credit, user_credit}
use Rattle.sched_book.specs.declared.rows.HostRow.{HostRow}
use Rattle.sched_book.specs.declared.world.World.{World}
use Rattle.sched_book.proofs.PlacesOf.{nth-suc}
use Rattle.sched_book.proofs.Settling.{slice_get-enumerate_from}
use Rattle.table_desk.specs.Columns.{counted_host_at}
use Rattle.table_desk.specs.declared.hosts.CountedHost.{CountedHost}
use Rattle.table_cache.specs.Carrying.{with_counted, share, shares, AreCreditsOf, IsShareOf}
use Rattle.table_cache.specs.LastNumbers.{AreNonePast, IsAtMost, IsPastLast}
use Rattle.table_cache.specs.RowsRead.{HoldOfEach, HasKept, IsWithout}
use Rattle.table_cache.specs.declared.rows_read.RowsRead.{RowsRead}

-- what holds of each of none
pub hold_of_none : {K T : Type 0} (cmp : K → K → Ordering) (Holds : K → T → Type 0) (read : RowsRead K T) → ((key : K) → get cmp read.rows key ≡ None) → HoldOfEach cmp Holds read
hold_of_none cmp Holds read none = λ key row is. let nothing : Some row ≡ None = sym is ∙ none key in absurd cc

-- ---- sums that differ at one number

module _ (g h : ℕ → ℕ) (at : ℕ) (same : (n : ℕ) → eqb at n ≡ false → g n ≡ h n) where
  same_past : (k n : ℕ) → at < n → sum_by g (range_with_len n k) ≡ sum_by h (range_with_len n k)
  same_past zero n past = refl
  same_past (suc k) n past =
      let here : g n ≡ h n = same n (grind (arith, nat_tests)) in
      let rest : sum_by g (range_with_len (n + 1) k) ≡ sum_by h (range_with_len (n + 1) k) = same_past k (n + 1) (omega arith) in
      sum_by-cons g n (range_with_len (n + 1) k) ∙ (λ i. here i + rest i) ∙ sym (sum_by-cons h n (range_with_len (n + 1) k))

  pub sum_moved : (k n : ℕ) → n ≤ at → at < n + k → sum_by g (range_with_len n k) + h at ≡ sum_by h (range_with_len n k) + g at
  sum_moved zero n from until = absurd (omega arith)
  sum_moved (suc k) n from until = cases (eqb at n) refl (sum_moved k (n + 1))
    where
      left : sum_by g (range_with_len n (suc k)) ≡ g n + sum_by g (range_with_len (n + 1) k)
      left = sum_by-cons g n (range_with_len (n + 1) k)

      right : sum_by h (range_with_len n (suc k)) ≡ h n + sum_by h (range_with_len (n + 1) k)
      right = sum_by-cons h n (range_with_len (n + 1) k)

      cases : (b : Bool) → eqb at n ≡ b → (n + 1 ≤ at → at < n + 1 + k → sum_by g (range_with_len (n + 1) k) + h at ≡ sum_by h (range_with_len (n + 1) k) + g at)
          → sum_by g (range_with_len n (suc k)) + h at ≡ sum_by h (range_with_len n (suc k)) + g at
      cases true is later_ones =
          let one : at ≡ n = grind (arith, nat_tests) in
          let rest = same_past k (n + 1) (omega arith) in
          let gs : g at ≡ g n = ap g one in
          let hs : h at ≡ h n = ap h one in
          omega (arith, left, right, rest, gs, hs)
      cases false is later_ones =
          let later : n + 1 ≤ at = grind (arith, nat_tests) in
          let rest = later_ones later (omega arith) in
          let here : g n ≡ h n = same n is in
          omega (arith, left, right, rest, here)

-- ---- one host that is another one

module _ (hosts : ℕ → Option CountedHost) (number old : ℕ) (new : CountedHost) (account : ℕ) (here_before : IsShareOf account (hosts number) old) (of_new : new.row.account ≡ account) where
  elsewhere : (a n : ℕ) → eqb number n ≡ false → share a (with_counted hosts number new n) ≡ share a (hosts n)
  elsewhere a n other = ap (λ (b : Bool). share a (cond b (Some new) (hosts n))) other

  here_now : (a : ℕ) → share a (with_counted hosts number new number) ≡ cond (eqb account a) new.credit 0
  here_now a =
      let same : eqb number number ≡ true = grind (arith, nat_tests) in
      ap (λ (b : Bool). share a (cond b (Some new) (hosts number))) same ∙ ap (λ (n : ℕ). cond (eqb n a) new.credit 0) of_new

  abbrev then : ℕ → Option CountedHost
  then = with_counted hosts number new

  -- the credit of its account moves by the difference
  of_account : (count : ℕ) → number < count → shares then account count + old ≡ shares hosts account count + new.credit
  of_account count within =
      let same : eqb account account ≡ true = grind (arith, nat_tests) in
      let before : share account (hosts number) ≡ old = here_before account ∙ ap (λ (b : Bool). cond b old 0) same in
      let now : share account (then number) ≡ new.credit = here_now account ∙ ap (λ (b : Bool). cond b new.credit 0) same in
      let moved = sum_moved (λ n. share account (then n)) (λ n. share account (hosts n)) number (elsewhere account) count 0 (omega arith) (omega arith) in
      omega (arith, moved, before, now)

  -- and that of others stays
  of_others : (a count : ℕ) → eqb account a ≡ false → number < count → shares then a count ≡ shares hosts a count
  of_others a count other within =
      let before : share a (hosts number) ≡ 0 = here_before a ∙ ap (λ (b : Bool). cond b old 0) other in
      let now : share a (then number) ≡ 0 = here_now a ∙ ap (λ (b : Bool). cond b new.credit 0) other in
      let moved = sum_moved (λ n. share a (then n)) (λ n. share a (hosts n)) number (elsewhere a) count 0 (omega arith) (omega arith) in
      omega (arith, moved, before, now)

  pub others_credited : (end : ℕ) (before after : RowsRead ℕ ℕ) → AreCreditsOf hosts end before → IsWithout nat_cmp before after account → AreCreditsOf then (end + suc number) after
  others_credited end before after are without = λ a credit is more.
      let was = without a credit is in
      let other : eqb account a ≡ false = grind (arith, nat_tests, was.0) in
      let until : end + suc number + more ≡ end + (suc number + more) = omega arith in
      are a credit was.1 (suc number + more) ∙ sym (of_others a (end + (suc number + more)) other (omega arith)) ∙ ap (shares then a) (sym until)

  pub account_credited : (end : ℕ) (before mid after : RowsRead ℕ ℕ) (credit moved : ℕ) → AreCreditsOf hosts end before → Some credit ≡ get nat_cmp before.rows account → IsWithout nat_cmp before mid account
      → moved + old ≡ credit + new.credit → HasKept nat_cmp mid after account moved → AreCreditsOf then (end + suc number) after
  account_credited end before mid after credit moved are found without is kept = λ a c there. elim (kept a c there) [
    | inl it ↦ λ more.
        let one : account ≡ a = grind (arith, nat_tests, it.0) in
        let until : end + suc number + more ≡ end + (suc number + more) = omega arith in
        let was : credit ≡ shares hosts account (end + (suc number + more)) = are account credit (sym found) (suc number + more) in
        let then_is = of_account (end + (suc number + more)) (omega arith) in
        let value : c ≡ shares then account (end + (suc number + more)) = it.1 ∙ (let left : moved ≡ shares then account (end + (suc number + more)) = omega (arith, is, was, then_is) in left) in
        value ∙ ap (λ n. shares then n (end + (suc number + more))) one ∙ ap (shares then a) (sym until)
    | inr other ↦ others_credited end before mid are without a c other
  ]

-- ---- one number past the last

pub none_at : {X : Type 0} (found : ℕ → Option X) (last : Option ℕ) (number : ℕ) → IsPastLast last number → IfSome last (AreNonePast found) → found number ≡ None
none_at found None number past none = absurd past
none_at found (Some last) number past none = none number past

-- with one more, none is past the new last number
pub none_past_with : {X : Type 0} (found then : ℕ → Option X) (last new : Option ℕ) (number : ℕ) → ((n : ℕ) → eqb number n ≡ false → then n ≡ found n)
    → IfSome new (IsAtMost last number) → IfSome last (AreNonePast found) → IfSome new (AreNonePast then)
none_past_with found then last None number elsewhere most none = tt
none_past_with found then None (Some n) number elsewhere most none = absurd most
none_past_with found then (Some l) (Some n) number elsewhere most none = λ m past.
    let apart : eqb number m ≡ false = grind (arith, nat_tests, most.1, past) in
    elsewhere m apart ∙ none m (omega (arith, most.0, past))

-- ---- what is known of hosts

pub with_elsewhere : (hosts : ℕ → Option CountedHost) (number : ℕ) (h : CountedHost) (n : ℕ) → eqb number n ≡ false → with_counted hosts number h n ≡ hosts n
with_elsewhere hosts number h n other = ap (λ (b : Bool). cond b (Some h) (hosts n)) other

pub known_at : (hosts : ℕ → Option CountedHost) (number : ℕ) (known : RowsRead ℕ CountedHost) (o : Option CountedHost) → o ≡ get nat_cmp known.rows number
    → HoldOfEach nat_cmp (λ n g. hosts n ≡ Some g) known → IfSome o (λ h. hosts number ≡ Some h)
known_at hosts number known None is each = tt
known_at hosts number known (Some h) is each = each number h (sym is)

-- with a host more at its number
pub host_renewed : (hosts : ℕ → Option CountedHost) (number : ℕ) (h : CountedHost) (before mid after : RowsRead ℕ CountedHost) → HoldOfEach nat_cmp (λ n g. hosts n ≡ Some g) before
    → IsWithout nat_cmp before mid number → HasKept nat_cmp mid after number h → HoldOfEach nat_cmp (λ n g. with_counted hosts number h n ≡ Some g) after
host_renewed hosts number h before mid after each without kept = λ n g is. elim (kept n g is) [
  | inl it ↦
      let one : eqb number n ≡ true = grind (arith, nat_tests, it.0) in
      ap (λ (b : Bool). cond b (Some h) (hosts n)) one ∙ ap Some (sym it.1)
  | inr other ↦
      let was = without n g other in
      let apart : eqb number n ≡ false = grind (arith, nat_tests, was.0) in
      ap (λ (b : Bool). cond b (Some h) (hosts n)) apart ∙ each n g was.1
]

-- ---- the hosts of a world

sum_of_none : (g : ℕ → ℕ) (k n : ℕ) → ((i : ℕ) → g (n + i) ≡ 0) → sum_by g (range_with_len n k) ≡ 0
sum_of_none g zero n none = refl
sum_of_none g (suc k) n none =
    let here : g n ≡ 0 = ap g (let at : n ≡ n + 0 = omega arith in at) ∙ none 0 in
    let rest : sum_by g (range_with_len (n + 1) k) ≡ 0 = sum_of_none g k (n + 1) (λ i. ap g (let at : n + 1 + i ≡ n + suc i = omega arith in at) ∙ none (suc i)) in
    let all = sum_by-cons g n (range_with_len (n + 1) k) in
    omega (arith, here, rest, all)

-- a sum over a list is one over its numbers and further ones
pub sum_of_list : {X : Type 0} (f : X → ℕ) (g : ℕ → ℕ) (xs : List X) (n more : ℕ) → ((i : ℕ) → g (n + i) ≡ unwrap_or (option_map f (slice_get xs i)) 0)
    → sum_by f xs ≡ sum_by g (range_with_len n (length xs + more))
sum_of_list f g [] n more same = sym (sum_of_none g (0 + more) n same)
sum_of_list f g (x ∷ xs) n more same =
    let here : g n ≡ f x = ap g (let at : n ≡ n + 0 = omega arith in at) ∙ same 0 in
    let rest : sum_by f xs ≡ sum_by g (range_with_len (n + 1) (length xs + more)) = sum_of_list f g xs (n + 1) more (λ i. ap g (let at : n + 1 + i ≡ n + suc i = omega arith in at) ∙ same (suc i)) in
    let left = sum_by-cons f x xs in
    let right = sum_by-cons g n (range_with_len (n + 1) (length xs + more)) in
    let whole : sum_by f (x ∷ xs) ≡ sum_by g (n ∷ range_with_len (n + 1) (length xs + more)) = omega (arith, here, rest, left, right) in
    whole ∙ ap (λ k. sum_by g (range_with_len n k)) (let more_of : suc (length xs + more) ≡ suc (length xs) + more = omega arith in more_of)

-- the credit of an account is what the hosts of the world add to it
pub credit_shared : (w : World) (account more : ℕ) → user_credit w account ≡ shares (counted_host_at w) account (suc (length w.hosts) + more)
credit_shared w account more =
    let f = λ (e : ℕ × HostRow). cond (eqb e.1.account account) (host_credit w e.0) 0 in
    let g = λ (n : ℕ). share account (counted_host_at w n) in
    let hosts = w.hosts in
    let numbered : sum_by f (enumerate_from 1 hosts) ≡ sum_by g (range_with_len 1 (length (enumerate_from 1 hosts) + more)) =
    sum_of_list f g (enumerate_from 1 hosts) 1 more (λ i. each i ∙ sym (placed i (slice_get hosts i)) ∙ sym (ap (λ (o : Option (ℕ × HostRow)). unwrap_or (option_map f o) 0) (slice_get-enumerate_from 1 hosts i))) in
    let listed : sum_by f (enumerate_from 1 hosts) ≡ sum_by g (range_with_len 1 (length hosts + more)) = numbered ∙ ap (λ k. sum_by g (range_with_len 1 (k + more))) (length-enumerate_from 1 hosts) in
    let first = sum_by-cons g 0 (range_with_len 1 (length hosts + more)) in
    let none : g 0 ≡ 0 = refl in
    let whole : user_credit w account ≡ sum_by g (0 ∷ range_with_len 1 (length hosts + more)) = omega (arith, listed, first, none) in
    whole ∙ ap (λ k. sum_by g (range_with_len 0 k)) (let more_of : suc (length hosts + more) ≡ suc (length hosts) + more = omega arith in more_of)
  where
    shared : (n : ℕ) (o : Option HostRow)
        → share account (option_map (λ (h : HostRow). record { row = h; held = length (held_by w n); credit = host_credit w n }) o) ≡ unwrap_or (option_map (λ (h : HostRow). cond (eqb h.account account) (host_credit w n) 0) o) 0
    shared n None = refl
    shared n (Some h) = refl

    placed : (i : ℕ) (o : Option HostRow) → unwrap_or (option_map (λ (e : ℕ × HostRow). cond (eqb e.1.account account) (host_credit w e.0) 0) (option_map (λ h. (1 + i, h)) o)) 0 ≡ unwrap_or (option_map (λ (h : HostRow). cond (eqb h.account account) (host_credit w (1 + i)) 0) o) 0
    placed i None = refl
    placed i (Some h) = refl

    each : (i : ℕ) → share account (counted_host_at w (1 + i)) ≡ unwrap_or (option_map (λ (h : HostRow). cond (eqb h.account account) (host_credit w (1 + i)) 0) (slice_get w.hosts i)) 0
    each i =
        let at : 1 + i ≡ suc i = omega arith in
        shared (1 + i) (nth w.hosts (1 + i)) ∙ ap (λ (o : Option HostRow). unwrap_or (option_map (λ (h : HostRow). cond (eqb h.account account) (host_credit w (1 + i)) 0) o) 0) (ap (nth w.hosts) at ∙ nth-suc w.hosts i)
