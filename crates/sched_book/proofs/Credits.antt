-- Credits: the credit of a user is that of the instances that were given to the user's hosts.
use Rattle.std.proofs.Common.{◌≡◌, ℕ, zero, suc, ◌+◌, ◌*◌, ◌<◌, Bool, true, false, cond, eqb, List, [], ◌∷◌, Option, Some, None, sym, refl, ap, ◌∙◌, arith}
use Rattle.std.proofs.lemmas.Bool.{eq-eqb}
use Rattle.std.proofs.lemmas.Bool.Decides.{nat_tests}
use Rattle.std.proofs.lemmas.List.Sums.{sum_by-cons}
use Rattle.std.specs.Prelude.{count_by, sum_by, option_map, option_and_then, unwrap_or, slice_get, ◌&&◌, ◌==◌}
use Rattle.std.specs.List.{enumerate_from}
use Rattle.sched_book.specs.Count.{is_valid}
use Rattle.sched_book.specs.Places.{nth, host_of, option_any, account_at, is_of_user, is_owned_by, book_verdict, host_credit, user_credit}
use Rattle.sched_book.specs.Selections.{credit_of}
use Rattle.sched_book.specs.declared.instance.Instance.{Instance}
use Rattle.sched_book.specs.declared.instance.UnitBook.{UnitBook}
use Rattle.sched_book.specs.declared.rows.HostRow.{HostRow}
use Rattle.sched_book.specs.declared.selection.Selection.TheVariants.{OfUser}
use Rattle.sched_book.specs.declared.world.World.{World}
use Rattle.sched_book.proofs.PlacesOf.{nth-suc}

-- sums
pub sum_same : {X : Type 0} (f g : X → ℕ) → ((x : X) → f x ≡ g x) → (xs : List X) → sum_by f xs ≡ sum_by g xs
sum_same f g same xs = let equal : f ≡ g = λ i x. same x i in ap (λ h. sum_by h xs) equal

pub sum_zero : {X : Type 0} (f : X → ℕ) → ((x : X) → f x ≡ 0) → (xs : List X) → sum_by f xs ≡ 0
sum_zero f none [] = refl
sum_zero f none (x ∷ xs) = sum_by-cons f x xs ∙ ap (λ n. n + sum_by f xs) (none x) ∙ ap (λ n. 0 + n) (sum_zero f none xs)

pub sum_plus : {X : Type 0} (f g : X → ℕ) (xs : List X) → sum_by f xs + sum_by g xs ≡ sum_by (λ x. f x + g x) xs
sum_plus f g [] = refl
sum_plus f g (x ∷ xs) =
    let left : sum_by f (x ∷ xs) ≡ f x + sum_by f xs = sum_by-cons f x xs in
    let right : sum_by g (x ∷ xs) ≡ g x + sum_by g xs = sum_by-cons g x xs in
    let both : sum_by (λ y. f y + g y) (x ∷ xs) ≡ f x + g x + sum_by (λ y. f y + g y) xs = sum_by-cons (λ y. f y + g y) x xs in
    let rest : sum_by f xs + sum_by g xs ≡ sum_by (λ y. f y + g y) xs = sum_plus f g xs in
    omega arith

pub exchange : {X Y : Type 0} (f : X → Y → ℕ) (xs : List X) (ys : List Y) → sum_by (λ x. sum_by (f x) ys) xs ≡ sum_by (λ y. sum_by (λ x. f x y) xs) ys
exchange f [] ys = sym (sum_zero (λ y. 0) (λ y. refl) ys)
exchange f (x ∷ xs) ys =
    sum_by-cons (λ x. sum_by (f x) ys) x xs
    ∙ ap (λ n. sum_by (f x) ys + n) (exchange f xs ys)
    ∙ sum_plus (f x) (λ y. sum_by (λ x. f x y) xs) ys
    ∙ sum_same (λ y. f x y + sum_by (λ x. f x y) xs) (λ y. sum_by (λ x. f x y) (x ∷ xs)) (λ y. sym (sum_by-cons (λ x. f x y) x xs)) ys

-- the same amount for each element that passes
pub times : {X : Type 0} (c : ℕ) (t : X → Bool) (hs : List X) → c * count_by t hs ≡ sum_by (λ h. cond (t h) c 0) hs
times c t [] = omega arith
times c t (h ∷ hs) =
    ap (λ n. c * n) (sum_by-cons (λ h. cond {A = ℕ} (t h) 1 0) h hs)
    ∙ one (t h) (count_by t hs)
    ∙ ap (λ n. cond (t h) c 0 + n) (times c t hs)
    ∙ sym (sum_by-cons (λ h. cond (t h) c 0) h hs)
  where
    one : (b : Bool) (k : ℕ) → c * (cond {A = ℕ} b 1 0 + k) ≡ cond b c 0 + c * k
    one true k = omega arith
    one false k = ap (λ n. c * n) (let same : 0 + k ≡ k = omega arith in same) ∙ (let same : c * k ≡ 0 + c * k = omega arith in same)

-- each number occurs once among the numbered hosts
module _ (t : HostRow → Bool) (c : ℕ) where
  abbrev one_of : ℕ → ℕ × HostRow → ℕ
  one_of h e = cond (t e.1) (cond (eqb h e.0) c 0) 0

  none_either : (b : Bool) (n : ℕ) → n ≡ 0 → cond b n 0 ≡ 0
  none_either true n is = is
  none_either false n is = refl

  none_before : (xs : List HostRow) (n h : ℕ) → h < n → sum_by (one_of h) (enumerate_from n xs) ≡ 0
  none_before [] n h less = refl
  none_before (x ∷ xs) n h less =
      sum_by-cons (one_of h) (n, x) (enumerate_from (n + 1) xs)
      ∙ ap (λ k. k + sum_by (one_of h) (enumerate_from (n + 1) xs))
      (none_either (t x) (cond (eqb h n) c 0) (ap (λ b. cond b c 0) (let other : eqb h n ≡ false = grind (arith, nat_tests) in other)))
      ∙ ap (λ k. 0 + k) (none_before xs (n + 1) h (let more : h < n + 1 = omega arith in more))

  once : (xs : List HostRow) (n i : ℕ) → sum_by (one_of (n + i)) (enumerate_from n xs) ≡ cond (unwrap_or (option_map t (slice_get xs i)) false) c 0
  once [] n i = refl
  once (x ∷ xs) n zero =
      sum_by-cons (one_of (n + 0)) (n, x) (enumerate_from (n + 1) xs)
      ∙ ap (λ k. cond (t x) (cond (eqb (n + 0) n) c 0) 0 + k) (none_before xs (n + 1) (n + 0) (let less : n + 0 < n + 1 = omega arith in less))
      ∙ ap (λ b. cond (t x) (cond b c 0) 0 + 0) (eq-eqb (n + 0) n (let same : n + 0 ≡ n = omega arith in same))
      ∙ last (cond (t x) c 0)
    where
      last : (k : ℕ) → k + 0 ≡ k
      last k = omega arith
  once (x ∷ xs) n (suc i) =
      sum_by-cons (one_of (n + suc i)) (n, x) (enumerate_from (n + 1) xs)
      ∙ ap (λ k. k + sum_by (one_of (n + suc i)) (enumerate_from (n + 1) xs))
      (none_either (t x) (cond (eqb (n + suc i) n) c 0) (ap (λ b. cond b c 0) (let other : eqb (n + suc i) n ≡ false = grind (arith, nat_tests) in other)))
      ∙ first (sum_by (one_of (n + suc i)) (enumerate_from (n + 1) xs))
      ∙ ap (λ m. sum_by (one_of m) (enumerate_from (n + 1) xs)) (later n i)
      ∙ once xs (n + 1) i
    where
      first : (k : ℕ) → 0 + k ≡ k
      first k = omega arith

      later : (n i : ℕ) → n + suc i ≡ n + 1 + i
      later n i = omega arith

  pub of_number : (xs : List HostRow) (h : ℕ) → sum_by (one_of h) (enumerate_from 1 xs) ≡ cond (unwrap_or (option_map t (nth xs h)) false) c 0
  of_number xs zero = none_before xs 1 0 (let less : 0 < 1 = omega arith in less)
  of_number xs (suc i) =
      ap (λ m. sum_by (one_of m) (enumerate_from 1 xs)) (let same : suc i ≡ 1 + i = omega arith in same)
      ∙ once xs 1 i
      ∙ ap (λ o. cond (unwrap_or (option_map t o) false) c 0) (sym (nth-suc xs i))

-- the credit of one instance, if it is included
abbrev credit_by : World → UnitBook → Instance → ℕ
credit_by w b x = cond (is_valid (book_verdict w.apps b x)) b.unit.credit 0

abbrev credit_if : (Instance → Bool) → World → UnitBook → Instance → ℕ
credit_if p w b x = cond (p x) (credit_by w b x) 0

-- counted workunit by workunit, and instance by instance
both : (own valid : Bool) (c : ℕ) → cond (own && valid) c 0 ≡ cond own (cond valid c 0) 0
both true valid c = refl
both false valid c = refl

by_instance : (p : Instance → Bool) (w : World)
    → sum_by (λ (b : UnitBook). b.unit.credit * count_by (λ x. p x && is_valid (book_verdict w.apps b x)) b.instances) w.units
    ≡ sum_by (λ b. sum_by (credit_if p w b) b.instances) w.units
by_instance p w =
    sum_same (λ (b : UnitBook). b.unit.credit * count_by (λ x. p x && is_valid (book_verdict w.apps b x)) b.instances)
    (λ b. sum_by (credit_if p w b) b.instances)
    (λ b.
    times b.unit.credit (λ x. p x && is_valid (book_verdict w.apps b x)) b.instances
    ∙ sum_same (λ x. cond (p x && is_valid (book_verdict w.apps b x)) b.unit.credit 0) (credit_if p w b)
    (λ x. both (p x) (is_valid (book_verdict w.apps b x)) b.unit.credit) b.instances) w.units

-- the credit of a user is that of the instances of the user's hosts
module _ (w : World) (account : ℕ) where
  abbrev part : ℕ × HostRow → UnitBook → Instance → ℕ
  part e b x = cond (e.1.account == account) (credit_if (is_owned_by e.0) w b x) 0

  of_host : (own : Bool) (n : ℕ) → cond own (host_credit w n) 0
      ≡ sum_by (λ b. sum_by (λ x. cond own (credit_if (is_owned_by n) w b x) 0) b.instances) w.units
  of_host true n = by_instance (is_owned_by n) w
  of_host false n =
      sym (sum_zero (λ (b : UnitBook). sum_by (λ (x : Instance). 0) b.instances) (λ b. sum_zero (λ x. 0) (λ x. refl) b.instances) w.units)

  -- each instance belongs to one host at most
  of_instance : (b : UnitBook) (x : Instance) → sum_by (λ e. part e b x) (enumerate_from 1 w.hosts) ≡ credit_if (is_of_user w.hosts account) w b x
  of_instance b x = cases (host_of x)
    where
      c : ℕ
      c = credit_by w b x

      none : (own : Bool) → cond {A = ℕ} own 0 0 ≡ 0
      none true = refl
      none false = refl

      same : (o : Option HostRow) → unwrap_or (option_map (λ (h : HostRow). h.account == account) o) false
          ≡ option_any (λ n. n == account) (option_map (λ (h : HostRow). h.account) o)
      same None = refl
      same (Some h) = refl

      cases : (o : Option ℕ)
          → sum_by (λ (e : ℕ × HostRow). cond (e.1.account == account) (cond (option_any (λ n. n == e.0) o) c 0) 0) (enumerate_from 1 w.hosts)
          ≡ cond (option_any (λ n. n == account) (option_and_then (account_at w.hosts) o)) c 0
      cases None = sum_zero (λ (e : ℕ × HostRow). cond (e.1.account == account) 0 0) (λ e. none (e.1.account == account)) (enumerate_from 1 w.hosts)
      cases (Some n) =
          of_number (λ (h : HostRow). h.account == account) c w.hosts n
          ∙ ap (λ own. cond own c 0) (same (nth w.hosts n))

  user_credit-is : user_credit w account ≡ sum_by (λ b. sum_by (credit_if (is_of_user w.hosts account) w b) b.instances) w.units
  user_credit-is =
      let es = enumerate_from 1 w.hosts in
      sum_same (λ e. cond (e.1.account == account) (host_credit w e.0) 0) (λ e. sum_by (λ b. sum_by (part e b) b.instances) w.units)
      (λ e. of_host (e.1.account == account) e.0) es
      ∙ exchange (λ e b. sum_by (part e b) b.instances) es w.units
      ∙ sum_same (λ b. sum_by (λ e. sum_by (part e b) b.instances) es) (λ b. sum_by (credit_if (is_of_user w.hosts account) w b) b.instances)
      (λ b.
      exchange (λ e. part e b) es b.instances
      ∙ sum_same (λ x. sum_by (λ e. part e b x) es) (credit_if (is_of_user w.hosts account) w b) (of_instance b) b.instances) w.units

-- what the plain desk counts of a user is the user's credit
pub user_credited : (w : World) (account credit : ℕ) → credit ≡ sum_by (credit_of w.hosts w.apps (OfUser account)) w.units → credit ≡ user_credit w account
user_credited w account credit is = is ∙ by_instance (is_of_user w.hosts account) w ∙ sym (user_credit-is w account)
