-- The hosts together, and the users together, have the credit of all valid results.
use Rattle.std.proofs.Common.{◌≡◌, ◌≢◌, ℕ, zero, suc, ◌+◌, ◌*◌, ◌<◌, ◌≤◌, Bool, true, false, cond, eqb, List, [], ◌∷◌, length, Option, Some, None, sym, refl, ap, ◌∙◌, subst, arith}
use Rattle.std.specs.Prelude.{◌&&◌, ◌==◌, sum_by, count_by, is_some, option_map, slice_get, IsTrue, IfSome}
use Rattle.std.specs.List.{enumerate_from}
use Rattle.std.proofs.lemmas.Bool.{eq-eqb, ne_eqb}
use Rattle.std.proofs.lemmas.List.Sums.{sum_by-cons}
use Rattle.sched_book.specs.Count.{agree, tells_success, reported_output, output_of, is_valid, canonical, verdict_by}
use Rattle.sched_book.specs.Places.{nth, agreement_of, verdict_of, option_any, host_of, is_owned_by, credit_in, host_credit}
use Rattle.sched_book.specs.Sound.{IsBare, HasOwnerAmong, IsSoundUnit, IsSoundHost, Sound}
use Rattle.sched_book.specs.declared.instance.Instance.{Instance}
use Rattle.sched_book.specs.declared.instance.Owner.{Owner}
use Rattle.sched_book.specs.declared.instance.UnitBook.{UnitBook}
use Rattle.sched_book.specs.declared.instance.Verdict.TheVariants.{Valid, Invalid}
use Rattle.sched_book.specs.declared.rows.Account.{Account}
use Rattle.sched_book.specs.declared.rows.Agreement.{Agreement}
use Rattle.sched_book.specs.declared.rows.HostRow.{HostRow}
use Rattle.sched_book.specs.declared.world.World.{World}
use Rattle.sched_book.proofs.PlacesOf.{nth-suc}
use Rattle.sched_book.proofs.Settling.{slice_get-enumerate_from}
use Rattle.sched_book.proofs.ByPlace.{all_get}
use Rattle.sched_machine.specs.Decisions.{CreditsAddUp}
use Rattle.sched_book.proofs.Credits.{exchange, times}
use Rattle.sched_machine.proofs.OptionParts.{mapped_by}

-- sums of functions that agree on each element
sum_alike : {X : Type 0} (f g : X → ℕ) (xs : List X) → ((i : ℕ) (x : X) → slice_get xs i ≡ Some x → f x ≡ g x) → sum_by f xs ≡ sum_by g xs
sum_alike f g [] same = refl
sum_alike f g (x ∷ xs) same =
    sum_by-cons f x xs
    ∙ ap (λ n. n + sum_by f xs) (same 0 x refl)
    ∙ ap (λ n. g x + n) (sum_alike f g xs (λ i. same (suc i)))
    ∙ sym (sum_by-cons g x xs)

-- one of the numbered elements has the number of an existing one
module _ {X : Type 0} (c : ℕ) where
  abbrev one_of : ℕ → ℕ × X → ℕ
  one_of h e = cond (eqb h e.0) c 0

  none_before : (xs : List X) (n h : ℕ) → h < n → sum_by (one_of h) (enumerate_from n xs) ≡ 0
  none_before [] n h less = refl
  none_before (x ∷ xs) n h less =
      sum_by-cons (one_of h) (n, x) (enumerate_from (n + 1) xs)
      ∙ ap (λ (b : Bool). cond b c 0 + sum_by (one_of h) (enumerate_from (n + 1) xs)) (ne_eqb h n (λ same. omega arith))
      ∙ ap (λ k. 0 + k) (none_before xs (n + 1) h (omega arith))

  once : (xs : List X) (n i : ℕ) → is_some (slice_get xs i) ≡ true → sum_by (one_of (n + i)) (enumerate_from n xs) ≡ c
  once [] n i stands = absurd cc
  once (x ∷ xs) n zero stands =
      sum_by-cons (one_of (n + 0)) (n, x) (enumerate_from (n + 1) xs)
      ∙ ap (λ k. cond (eqb (n + 0) n) c 0 + k) (none_before xs (n + 1) (n + 0) (omega arith))
      ∙ ap (λ (b : Bool). cond b c 0 + 0) (eq-eqb (n + 0) n (omega arith))
      ∙ (let same : c + 0 ≡ c = omega arith in same)
  once (x ∷ xs) n (suc i) stands =
      sum_by-cons (one_of (n + suc i)) (n, x) (enumerate_from (n + 1) xs)
      ∙ ap (λ (b : Bool). cond b c 0 + sum_by (one_of (n + suc i)) (enumerate_from (n + 1) xs)) (ne_eqb (n + suc i) n (λ same. omega arith))
      ∙ ap (λ m. 0 + sum_by (one_of m) (enumerate_from (n + 1) xs)) (let same : n + suc i ≡ n + 1 + i = omega arith in same)
      ∙ ap (λ k. 0 + k) (once xs (n + 1) i stands)
      ∙ (let same : 0 + c ≡ c = omega arith in same)

  of_place : (xs : List X) (h : ℕ) → is_some (nth xs h) ≡ true → sum_by (one_of h) (enumerate_from 1 xs) ≡ c
  of_place xs zero stands = absurd cc
  of_place xs (suc i) stands =
      ap (λ m. sum_by (one_of m) (enumerate_from 1 xs)) (let same : suc i ≡ 1 + i = omega arith in same)
      ∙ once xs 1 i (sym (ap is_some (nth-suc xs i)) ∙ stands)

-- there is no verdict on an instance without report, so a valid result was reported
pub no_verdict : (a : Agreement) (xs : List Instance) (o : Option ℕ) (x : Instance) → x.report ≡ None → verdict_by a xs o x ≡ None
no_verdict a xs None x none = refl
no_verdict a xs (Some c) x none =
    ap (λ r. cond (tells_success r) (Some (cond (agree a (reported_output r) (output_of xs c)) Valid Invalid)) None) none

valid_reported : (w : World) (b : UnitBook) (x : Instance) → is_valid (verdict_of w b x) ≡ true → x.report ≢ None
valid_reported w b x valid none =
    let a : Agreement = agreement_of w b in
    let never : false ≡ true = sym (ap is_valid (no_verdict a b.instances (canonical a b.unit b.instances) x none)) ∙ valid in
    absurd cc

module _ (w : World) (sound : Sound w) where
  -- a valid result has an owner, whose host exists
  has_host : (b : UnitBook) → IsSoundUnit w.hosts w.apps b → (i : ℕ) (x : Instance) → slice_get b.instances i ≡ Some x
      → is_valid (verdict_of w b x) ≡ true
      → (host : ℕ) × (host_of x ≡ Some host) × IsTrue (is_some (nth w.hosts host))
  has_host b unit i x there valid = cases x.owner refl
    where
      among : IfSome (host_of x) (λ host. IsTrue (is_some (nth w.hosts host)))
      among = all_get (HasOwnerAmong w.hosts) b.instances i x unit.well.owners there

      cases : (o : Option Owner) → x.owner ≡ o → (host : ℕ) × (host_of x ≡ Some host) × IsTrue (is_some (nth w.hosts host))
      cases None is = absurd (valid_reported w b x valid (all_get IsBare b.instances i x unit.well.bare there is).1)
      cases (Some o) is =
          let host : host_of x ≡ Some o.host = ap (option_map (λ (o : Owner). o.host)) is in
          (o.host, host, subst (λ q. IfSome q (λ host. IsTrue (is_some (nth w.hosts host)))) host among)

  -- one result's worth goes to one host
  one_host : (b : UnitBook) → IsSoundUnit w.hosts w.apps b → (i : ℕ) (x : Instance) → slice_get b.instances i ≡ Some x
      → sum_by (λ (e : ℕ × HostRow). cond (is_owned_by e.0 x && is_valid (verdict_of w b x)) b.unit.credit 0) (enumerate_from 1 w.hosts)
      ≡ cond (is_valid (verdict_of w b x)) b.unit.credit 0
  one_host b unit i x there = cases (is_valid (verdict_of w b x)) refl
    where
      nothing : (s : Bool) → cond (s && false) b.unit.credit 0 ≡ 0
      nothing true = refl
      nothing false = refl

      zeros : (es : List (ℕ × HostRow)) → sum_by (λ (e : ℕ × HostRow). 0) es ≡ 0
      zeros [] = refl
      zeros (e ∷ es) = sum_by-cons (λ (e : ℕ × HostRow). 0) e es ∙ ap (λ n. 0 + n) (zeros es)

      cases : (v : Bool) → is_valid (verdict_of w b x) ≡ v
          → sum_by (λ (e : ℕ × HostRow). cond (is_owned_by e.0 x && v) b.unit.credit 0) (enumerate_from 1 w.hosts) ≡ cond v b.unit.credit 0
      cases false is =
          sum_alike (λ (e : ℕ × HostRow). cond (is_owned_by e.0 x && false) b.unit.credit 0) (λ e. 0) (enumerate_from 1 w.hosts)
          (λ i e at. nothing (is_owned_by e.0 x))
          ∙ zeros (enumerate_from 1 w.hosts)
      cases true is =
          let owned = has_host b unit i x there is in
          sum_alike (λ (e : ℕ × HostRow). cond (is_owned_by e.0 x && true) b.unit.credit 0) (λ e. cond (eqb owned.0 e.0) b.unit.credit 0)
          (enumerate_from 1 w.hosts)
          (λ i e at. ap (λ o. cond (option_any (λ n. n == e.0) o && true) b.unit.credit 0) owned.1 ∙ also (eqb owned.0 e.0))
          ∙ of_place b.unit.credit w.hosts owned.0 owned.2
        where
          also : (s : Bool) → cond (s && true) b.unit.credit 0 ≡ cond s b.unit.credit 0
          also true = refl
          also false = refl

  -- so what a workunit's results are worth goes to the hosts
  one_unit : (b : UnitBook) → IsSoundUnit w.hosts w.apps b
      → sum_by (λ (e : ℕ × HostRow). credit_in w.apps e.0 b) (enumerate_from 1 w.hosts)
      ≡ b.unit.credit * count_by (λ x. is_valid (verdict_of w b x)) b.instances
  one_unit b unit =
      sum_alike (λ (e : ℕ × HostRow). credit_in w.apps e.0 b)
      (λ e. sum_by (λ x. cond (is_owned_by e.0 x && is_valid (verdict_of w b x)) b.unit.credit 0) b.instances) (enumerate_from 1 w.hosts)
      (λ i e at. times b.unit.credit (λ x. is_owned_by e.0 x && is_valid (verdict_of w b x)) b.instances)
      ∙ exchange (λ (e : ℕ × HostRow) x. cond (is_owned_by e.0 x && is_valid (verdict_of w b x)) b.unit.credit 0) (enumerate_from 1 w.hosts) b.instances
      ∙ sum_alike (λ x. sum_by (λ (e : ℕ × HostRow). cond (is_owned_by e.0 x && is_valid (verdict_of w b x)) b.unit.credit 0) (enumerate_from 1 w.hosts))
      (λ x. cond (is_valid (verdict_of w b x)) b.unit.credit 0) b.instances (one_host b unit)
      ∙ sym (times b.unit.credit (λ x. is_valid (verdict_of w b x)) b.instances)

  hosts_add_up : sum_by (λ (e : ℕ × HostRow). host_credit w e.0) (enumerate_from 1 w.hosts)
      ≡ sum_by (λ b. b.unit.credit * count_by (λ x. is_valid (verdict_of w b x)) b.instances) w.units
  hosts_add_up =
      exchange (λ (e : ℕ × HostRow) b. credit_in w.apps e.0 b) (enumerate_from 1 w.hosts) w.units
      ∙ sum_alike (λ b. sum_by (λ (e : ℕ × HostRow). credit_in w.apps e.0 b) (enumerate_from 1 w.hosts))
      (λ b. b.unit.credit * count_by (λ x. is_valid (verdict_of w b x)) b.instances) w.units
      (λ i b there. one_unit b (all_get (IsSoundUnit w.hosts w.apps) w.units i b sound.units there))

  -- a host's credit goes to one user, whose account exists
  account_stands : (h : HostRow) → IsSoundHost (length w.accounts) w.settings.daily_result_quota h → is_some (nth w.accounts h.account) ≡ true
  account_stands h is = at h.account is.account.0 is.account.1
    where
      within : (xs : List Account) (i : ℕ) → i < length xs → is_some (slice_get xs i) ≡ true
      within [] i less = absurd (omega arith)
      within (a ∷ xs) zero less = refl
      within (a ∷ xs) (suc i) less = within xs i (omega arith)

      at : (n : ℕ) → 1 ≤ n → n ≤ length w.accounts → is_some (nth w.accounts n) ≡ true
      at zero low high = absurd (omega arith)
      at (suc i) low high = ap is_some (nth-suc w.accounts i) ∙ within w.accounts i (omega arith)

  users_add_up : sum_by (λ (a : ℕ × Account). sum_by (λ (e : ℕ × HostRow). cond (e.1.account == a.0) (host_credit w e.0) 0) (enumerate_from 1 w.hosts)) (enumerate_from 1 w.accounts)
      ≡ sum_by (λ (e : ℕ × HostRow). host_credit w e.0) (enumerate_from 1 w.hosts)
  users_add_up =
      exchange (λ (a : ℕ × Account) (e : ℕ × HostRow). cond (e.1.account == a.0) (host_credit w e.0) 0) (enumerate_from 1 w.accounts) (enumerate_from 1 w.hosts)
      ∙ sum_alike (λ (e : ℕ × HostRow). sum_by (λ (a : ℕ × Account). cond (e.1.account == a.0) (host_credit w e.0) 0) (enumerate_from 1 w.accounts))
      (λ e. host_credit w e.0) (enumerate_from 1 w.hosts)
      (λ i e there. of_place (host_credit w e.0) w.accounts e.1.account (stands i e there))
    where
      stands : (i : ℕ) (e : ℕ × HostRow) → slice_get (enumerate_from 1 w.hosts) i ≡ Some e → is_some (nth w.accounts e.1.account) ≡ true
      stands i e there =
          let h = mapped_by (λ h. (1 + i, h)) (slice_get w.hosts i) e (sym (slice_get-enumerate_from 1 w.hosts i) ∙ there) in
          subst (λ (f : ℕ × HostRow). is_some (nth w.accounts f.1.account) ≡ true) h.2
          (account_stands h.0 (all_get (IsSoundHost (length w.accounts) w.settings.daily_result_quota) w.hosts i h.0 sound.rows.hosts h.1))

pub sound_credits_add_up : (w : World) → Sound w → CreditsAddUp w
sound_credits_add_up w sound = record { hosts = hosts_add_up w sound; users = users_add_up w sound ∙ hosts_add_up w sound }
