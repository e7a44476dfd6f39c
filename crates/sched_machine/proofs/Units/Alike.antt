-- A list, and another whose elements are like those at the same index; and a list with one element changed.
use Rattle.std.proofs.Common.{◌≡◌, ℕ, zero, suc, ◌+◌, Bool, true, false, cond, List, [], ◌∷◌, get_or, Some, None, sym, refl, ap, ◌∙◌, subst, arith}
use Rattle.std.specs.Prelude.{◌||◌, All, AllPairs, count_by, map, slice_get}
use Rattle.std.specs.List.{list_any, enumerate_from}
use Rattle.std.proofs.lemmas.List.Sums.{sum_by-cons}
use Rattle.std.proofs.lemmas.Option.{slice_get_within, slice_get-get_or, get_or_from_slice_get, slice_get-map}
use Rattle.sched_book.specs.Reports.{modify_at}
use Rattle.sched_book.proofs.Changes.{count_changed}
use Rattle.sched_book.proofs.Settling.{slice_get-enumerate_from}
use Rattle.sched_book.proofs.ByPlace.{all_get}
use Rattle.sched_machine.proofs.OptionParts.{mapped_by}

-- each element of the second list is like the one at its index in the first
abbrev pub Alike : {X : Type 0} → (X → X → Type 0) → List X → List X → Type 0
Alike {X} R xs ys = (i : ℕ) (y : X) → slice_get ys i ≡ Some y → (x : X) × (slice_get xs i ≡ Some x) × R x y

-- a fact about each element, and about each two, carries over
pub all_alike : {X : Type 0} (P Q : X → Type 0) (R : X → X → Type 0) (xs ys : List X) → Alike R xs ys
    → ((x y : X) → R x y → P x → Q y) → All P xs → All Q ys
all_alike P Q R xs ys alike carry all k d within =
    let there = alike k (get_or ys k d) (slice_get-get_or ys k d within) in
    carry there.0 (get_or ys k d) there.2 (all_get P xs k there.0 all there.1)

pub pairs_alike : {X : Type 0} (P Q R : X → X → Type 0) (xs ys : List X) → Alike R xs ys
    → ((x y a b : X) → R x a → R y b → P x y → Q a b) → AllPairs P xs → AllPairs Q ys
pairs_alike P Q R xs ys alike carry pairs i j d below within =
    let first = alike i (get_or ys i d) (slice_get-get_or ys i d (omega arith)) in
    let second = alike j (get_or ys j d) (slice_get-get_or ys j d within) in
    carry first.0 second.0 (get_or ys i d) (get_or ys j d) first.2 second.2
    (subst (λ z. P z second.0) (get_or_from_slice_get xs i first.0 d first.1)
    (subst (λ z. P (get_or xs i d) z) (get_or_from_slice_get xs j second.0 d second.1)
    (pairs i j d below (slice_get_within xs j second.0 second.1))))

-- one element changed
pub modify_at-none : {X : Type 0} (f : X → X) (xs : List X) (i : ℕ) → slice_get xs i ≡ None → modify_at f xs i ≡ xs
modify_at-none f [] i none = refl
modify_at-none f (x ∷ xs) zero none = absurd cc
modify_at-none f (x ∷ xs) (suc i) none = ap (λ ys. x ∷ ys) (modify_at-none f xs i none)

-- how many pass, if the changed one passes as before, or newly
pub count_cons : {X : Type 0} (p : X → Bool) (x : X) (xs : List X) (b : Bool) → p x ≡ b
    → count_by p (x ∷ xs) ≡ cond {A = ℕ} b 1 0 + count_by p xs
count_cons p x xs b is = sum_by-cons (λ y. cond {A = ℕ} (p y) 1 0) x xs ∙ ap (λ (c : Bool). cond {A = ℕ} c 1 0 + count_by p xs) is

pub count_same : {X : Type 0} (p : X → Bool) (f : X → X) (xs : List X) (i : ℕ) (x : X) → slice_get xs i ≡ Some x → p (f x) ≡ p x
    → count_by p (modify_at f xs i) ≡ count_by p xs
count_same p f xs i x stands same =
    count_changed p f xs i (λ y there.
    let is : x ≡ y = (let both : Some x ≡ Some y = sym stands ∙ there in cc) in subst (λ z. p (f z) ≡ p z) is same)

pub count_more : {X : Type 0} (p : X → Bool) (f : X → X) (xs : List X) (i : ℕ) (x : X) → slice_get xs i ≡ Some x → p x ≡ false → p (f x) ≡ true
    → count_by p (modify_at f xs i) ≡ count_by p xs + 1
count_more p f [] i x stands not_yet now = absurd cc
count_more p f (y ∷ ys) zero x stands not_yet now =
    let is : y ≡ x = cc in
    let after : count_by p (f y ∷ ys) ≡ 1 + count_by p ys = count_cons p (f y) ys true (ap (λ z. p (f z)) is ∙ now) in
    let before : count_by p (y ∷ ys) ≡ 0 + count_by p ys = count_cons p y ys false (ap p is ∙ not_yet) in
    omega arith
count_more p f (y ∷ ys) (suc i) x stands not_yet now =
    let one : ℕ = cond {A = ℕ} (p y) 1 0 in
    let after : count_by p (y ∷ modify_at f ys i) ≡ one + count_by p (modify_at f ys i) = count_cons p y (modify_at f ys i) (p y) refl in
    let before : count_by p (y ∷ ys) ≡ one + count_by p ys = count_cons p y ys (p y) refl in
    let rest : count_by p (modify_at f ys i) ≡ count_by p ys + 1 = count_more p f ys i x stands not_yet now in
    omega arith

-- whether any passes, if the changed one passes as before, or newly
pub any_kept : {X : Type 0} (q : X → Bool) (f : X → X) (xs : List X) (i : ℕ) → ((x : X) → slice_get xs i ≡ Some x → q x ≡ true → q (f x) ≡ true)
    → list_any q xs ≡ true → list_any q (modify_at f xs i) ≡ true
any_kept q f [] i keeps any = any
any_kept q f (y ∷ ys) zero keeps any = cases (q y) refl any
  where
    cases : (b : Bool) → q y ≡ b → (b || list_any q ys) ≡ true → (q (f y) || list_any q ys) ≡ true
    cases true is found = ap (λ (c : Bool). c || list_any q ys) (keeps y refl is)
    cases false is found = either (q (f y)) found
      where
        either : (c : Bool) → list_any q ys ≡ true → (c || list_any q ys) ≡ true
        either true found = refl
        either false found = found
any_kept q f (y ∷ ys) (suc i) keeps any = cases (q y) (any_kept q f ys i keeps) any
  where
    cases : (b : Bool) → (list_any q ys ≡ true → list_any q (modify_at f ys i) ≡ true) → (b || list_any q ys) ≡ true → (b || list_any q (modify_at f ys i)) ≡ true
    cases true rest found = refl
    cases false rest found = rest found

pub any_here : {X : Type 0} (q : X → Bool) (f : X → X) (xs : List X) (i : ℕ) (x : X) → slice_get xs i ≡ Some x → q (f x) ≡ true
    → list_any q (modify_at f xs i) ≡ true
any_here q f [] i x stands now = absurd cc
any_here q f (y ∷ ys) zero x stands now =
    let is : y ≡ x = cc in
    ap (λ (c : Bool). c || list_any q ys) (ap (λ z. q (f z)) is ∙ now)
any_here q f (y ∷ ys) (suc i) x stands now = cases (q y) (any_here q f ys i x stands now)
  where
    cases : (b : Bool) → list_any q (modify_at f ys i) ≡ true → (b || list_any q (modify_at f ys i)) ≡ true
    cases true rest = refl
    cases false rest = rest

-- each element replaced by one that is like it
pub alike_map : {X : Type 0} (R : X → X → Type 0) (f : X → X) (xs : List X) → ((x : X) → R x (f x)) → Alike R xs (map f xs)
alike_map R f xs makes i y stands =
    let x = mapped_by f (slice_get xs i) y (sym (slice_get-map f xs i) ∙ stands) in (x.0, x.1, subst (R x.0) x.2 (makes x.0))

-- the same for a function of the element and its number
pub alike_numbered : {X : Type 0} (R : X → X → Type 0) (f : ℕ × X → X) (xs : List X) → ((n : ℕ) (x : X) → R x (f (n, x)))
    → Alike R xs (map f (enumerate_from 1 xs))
alike_numbered R f xs makes i y stands =
    let e = mapped_by f (slice_get (enumerate_from 1 xs) i) y (sym (slice_get-map f (enumerate_from 1 xs) i) ∙ stands) in
    let x = mapped_by (λ x. (1 + i, x)) (slice_get xs i) e.0 (sym (slice_get-enumerate_from 1 xs i) ∙ e.1) in
    (x.0, x.1, subst (R x.0) (ap f x.2 ∙ e.2) (makes (1 + i) x.0))
