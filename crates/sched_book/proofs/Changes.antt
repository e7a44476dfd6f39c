-- A list with one element changed.
use Rattle.std.proofs.Common.{◌≡◌, ℕ, zero, suc, ◌+◌, ◌-◌, ◌<◌, ◌≤◌, ◌≢◌, Bool, cond, List, [], ◌∷◌, length, get_or, set, sym, refl, ap, ◌∙◌, arith, Some, ◌++◌}
use Rattle.std.specs.Prelude.{slice_get, slice_set, count_by, sum_by}
use Rattle.std.proofs.lemmas.Bool.{ne_eqb, lt-ltb}
use Rattle.std.proofs.lemmas.List.Sums.{sum_by-cons}
use Rattle.std.proofs.lemmas.Option.{slice_get_within, get_or_from_slice_get}
use Rattle.sched_book.specs.Delta.{set_at}
use Rattle.sched_book.specs.Reports.{modify_at, modify_nth}

-- if there is an element at the index, it alone is changed
pub modify_at-set : {X : Type 0} (f : X → X) (xs : List X) (i : ℕ) (x : X) → i < length xs → x ≡ get_or xs i x → modify_at f xs i ≡ set xs i (f x)
modify_at-set f [] i x within is = refl
modify_at-set f (y ∷ xs) zero x within is = ap (λ z. f z ∷ xs) (sym is)
modify_at-set f (y ∷ xs) (suc i) x within is = ap (λ zs. y ∷ zs) (modify_at-set f xs i x (omega arith) is)

-- if there is an element, changing it is putting the changed one in its place
pub modify_at-put : {X : Type 0} (f : X → X) (xs : List X) (i : ℕ) (x : X) → slice_get xs i ≡ Some x → modify_at f xs i ≡ set_at xs i (f x)
modify_at-put f xs i x stands =
    let within : i < length xs = slice_get_within xs i x stands in
    modify_at-set f xs i x within (sym (get_or_from_slice_get xs i x x stands))
    ∙ sym (ap (λ (b : Bool). cond b (slice_set xs i (f x)) (xs ++ f x ∷ [])) (lt-ltb i (length xs) within))

-- if there is none, nothing is changed
pub modify_at-past : {X : Type 0} (f : X → X) (xs : List X) (i : ℕ) → length xs ≤ i → modify_at f xs i ≡ xs
modify_at-past f [] i past = refl
modify_at-past f (y ∷ xs) zero past = absurd (omega arith)
modify_at-past f (y ∷ xs) (suc i) past = ap (λ zs. y ∷ zs) (modify_at-past f xs i (omega arith))

-- the same, with places that count from 1
pub modify_nth-set : {X : Type 0} (f : X → X) (xs : List X) (n : ℕ) (x y : X) → n ≢ 0 → n - 1 < length xs → x ≡ get_or xs (n - 1) x
    → y ≡ f x → modify_nth f xs n ≡ set xs (n - 1) y
modify_nth-set f xs n x y some within is value =
    ap (λ (b : Bool). cond b xs (modify_at f xs (n - 1))) (ne_eqb n 0 some)
    ∙ modify_at-set f xs (n - 1) x within is
    ∙ ap (set xs (n - 1)) (sym value)

pub modify_nth-past : {X : Type 0} (f : X → X) (xs : List X) (n : ℕ) → n ≢ 0 → length xs ≤ n - 1 → modify_nth f xs n ≡ xs
modify_nth-past f xs n some past =
    ap (λ (b : Bool). cond b xs (modify_at f xs (n - 1))) (ne_eqb n 0 some) ∙ modify_at-past f xs (n - 1) past

pub ruleset changed_nth_steps = (modify_nth-past)

-- a sum if one element changes and counts as much as before
pub sum_changed_at : {X : Type 0} (g : X → ℕ) (f : X → X) (xs : List X) (i : ℕ) → ((x : X) → slice_get xs i ≡ Some x → g (f x) ≡ g x)
    → sum_by g (modify_at f xs i) ≡ sum_by g xs
sum_changed_at g f [] i same = refl
sum_changed_at g f (x ∷ xs) zero same = sum_by-cons g (f x) xs ∙ ap (λ n. n + sum_by g xs) (same x refl) ∙ sym (sum_by-cons g x xs)
sum_changed_at g f (x ∷ xs) (suc i) same =
    sum_by-cons g x (modify_at f xs i) ∙ ap (λ n. g x + n) (sum_changed_at g f xs i same) ∙ sym (sum_by-cons g x xs)

-- a change that does not affect the test does not change how many pass
pub count_changed : {X : Type 0} (p : X → Bool) (f : X → X) (xs : List X) (n : ℕ) → ((x : X) → slice_get xs n ≡ Some x → p (f x) ≡ p x)
    → count_by p (modify_at f xs n) ≡ count_by p xs
count_changed p f xs n same =
    sum_changed_at (λ y. cond {A = ℕ} (p y) 1 0) f xs n (λ x is. ap (λ (b : Bool). cond {A = ℕ} b 1 0) (same x is))
