-- A row put at a place of a list, and the row at an index.
use Rattle.std.proofs.Common.{◌≡◌, ℕ, zero, suc, ◌+◌, ◌-◌, ◌<◌, ◌≤◌, Bool, true, false, cond, eqb, ltb, Bor, List, [], ◌∷◌, ◌++◌, length, set, Option, Some, None, sym, refl, ap, ◌∙◌, arith}
use Rattle.std.proofs.Math.Dec.{eqb-suc-zero, eqb-zero-suc, eqb-suc-suc}
use Rattle.std.specs.Prelude.{slice_get, min}
use Rattle.std.specs.Option.{option_copied}
use Rattle.std.specs.Slice.{IsItemAt}
use Rattle.std.proofs.lemmas.Option.{slice_get_within, slice_get_past, slice_get_read}
use borrow.Author.Tests.{ltb-true, ltb-false}
use Rattle.sched_book.specs.Places.{nth}
use Rattle.sched_book.specs.Delta.{set_at, set_nth}
use Rattle.sched_book.proofs.PlacesOf.{nth-suc, nth-push}

-- the element at an index after one element was written
slice_get-set : {X : Type 0} (xs : List X) (i j : ℕ) (x : X) → i < length xs
    → slice_get (set xs i x) j ≡ cond (eqb i j) (Some x) (slice_get xs j)
slice_get-set [] i j x within = absurd (omega arith)
slice_get-set (y ∷ ys) zero zero x within = refl
slice_get-set (y ∷ ys) zero (suc j) x within = sym (ap (λ (b : Bool). cond b (Some x) (slice_get ys j)) (eqb-zero-suc j))
slice_get-set (y ∷ ys) (suc i) zero x within = sym (ap (λ (b : Bool). cond b (Some x) (Some y)) (eqb-suc-zero i))
slice_get-set (y ∷ ys) (suc i) (suc j) x within =
    slice_get-set ys i j x (omega arith)
    ∙ sym (ap (λ (b : Bool). cond b (Some x) (slice_get ys j)) (eqb-suc-suc i j))

-- a row put at a place is at that place, or at the next
put_suc : {X : Type 0} (xs : List X) (i : ℕ) (x : X) → set_nth xs (suc i) x ≡ set_at xs i x
put_suc xs i x =
    ap (λ (b : Bool). cond b xs (set_at xs (suc i - 1) x)) (eqb-suc-zero i)
    ∙ ap (λ k. set_at xs k x) (let same : suc i - 1 ≡ i = omega arith in same)

nth-set_at : {X : Type 0} (xs : List X) (i : ℕ) (x : X) (n : ℕ)
    → nth (set_at xs i x) n ≡ cond (eqb (min (suc i) (length xs + 1)) n) (Some x) (nth xs n)
nth-set_at {X} xs i x n = cases (ltb i (length xs)) refl
  where
    within : (n : ℕ) → i < length xs → nth (set xs i x) n ≡ cond (eqb (suc i) n) (Some x) (nth xs n)
    within zero less = sym (ap (λ (b : Bool). cond b (Some x) None) (eqb-suc-zero i))
    within (suc j) less =
        nth-suc (set xs i x) j
        ∙ slice_get-set xs i j x less
        ∙ ap (λ o. cond (eqb i j) (Some x) o) (sym (nth-suc xs j))
        ∙ sym (ap (λ (b : Bool). cond b (Some x) (nth xs (suc j))) (eqb-suc-suc i j))

    cases : (b : Bool) → ltb i (length xs) ≡ b
        → nth (cond b (set xs i x) (xs ++ x ∷ [])) n ≡ cond (eqb (min (suc i) (length xs + 1)) n) (Some x) (nth xs n)
    cases true is =
        let less : i < length xs = ltb-true i (length xs) is in
        within n less ∙ ap (λ k. cond (eqb k n) (Some x) (nth xs n)) (let same : suc i ≡ min (suc i) (length xs + 1) = omega arith in same)
    cases false is =
        let past : length xs ≤ i = ltb-false i (length xs) is in
        nth-push xs x n
        ∙ ap (λ k. cond (eqb k n) (Some x) (nth xs n)) (let same : length xs + 1 ≡ min (suc i) (length xs + 1) = omega arith in same)

pub nth-set_nth : {X : Type 0} (xs : List X) (m : ℕ) (x : X) (n : ℕ)
    → nth (set_nth xs m x) n ≡ cond (eqb m 0) (nth xs n) (cond (eqb (min m (length xs + 1)) n) (Some x) (nth xs n))
nth-set_nth xs zero x n = refl
nth-set_nth xs (suc i) x n =
    ap (λ ys. nth ys n) (put_suc xs i x)
    ∙ nth-set_at xs i x n
    ∙ sym (ap (λ (b : Bool). cond b (nth xs n) (cond (eqb (min (suc i) (length xs + 1)) n) (Some x) (nth xs n))) (eqb-suc-zero i))

-- the row at a place after a row was put at an existing place or the next
pub nth-put : {X : Type 0} (xs : List X) (m : ℕ) (x : X) (n : ℕ) → 1 ≤ m → m ≤ length xs + 1 → nth (set_nth xs m x) n ≡ cond (eqb m n) (Some x) (nth xs n)
nth-put xs zero x n some place = absurd (omega arith)
nth-put xs (suc i) x n some place =
    nth-set_nth xs (suc i) x n
    ∙ ap (λ (b : Bool). cond b (nth xs n) (cond (eqb (min (suc i) (length xs + 1)) n) (Some x) (nth xs n))) (eqb-suc-zero i)
    ∙ ap (λ k. cond (eqb k n) (Some x) (nth xs n)) (let same : min (suc i) (length xs + 1) ≡ suc i = omega arith in same)

-- a place at which there is a row
pub nth_found : {X : Type 0} (xs : List X) (n : ℕ) (x : X) → nth xs n ≡ Some x → (1 ≤ n) × (n ≤ length xs + 1)
nth_found xs zero x found = absurd cc
nth_found xs (suc i) x found =
    let there : slice_get xs i ≡ Some x = sym (nth-suc xs i) ∙ found in
    let within : i < length xs = slice_get_within xs i x there in
    (omega arith, omega arith)

-- the row that a slice returned for an index
pub row_got : {X : Type 0} (xs ys : List X) (i : ℕ) (r : Option (Bor X)) → IsItemAt xs i r → xs ≡ ys → slice_get ys i ≡ option_copied r
row_got {X} xs ys i r at same = ap (λ zs. slice_get zs i) (sym same) ∙ cases r at
  where
    cases : (o : Option (Bor X)) → IsItemAt xs i o → slice_get xs i ≡ option_copied o
    cases None at = slice_get_past xs i at.3
    cases (Some x) at = slice_get_read xs (length xs) i x.now refl at.3.0 at.1
