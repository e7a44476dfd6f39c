-- Lists made from other lists: a function of each element and its number.
use Rattle.std.proofs.Common.{◌≡◌, ◌≢◌, ℕ, zero, suc, ◌+◌, ◌<◌, Bool, cond, eqb, List, [], ◌∷◌, sym, refl, ap, ◌∙◌, arith}
use Rattle.std.proofs.lemmas.Bool.{ne_eqb, eq-eqb}
use Rattle.sched_book.specs.Reports.{modify_at, modify_nth}
use Rattle.sched_book.specs.Numbered.{map_from}
use Rattle.sched_book.proofs.PlacesOf.{modify_nth-suc}

pub map_from-same : {X Y : Type 0} (n : ℕ) (f g : ℕ → X → Y) → ((m : ℕ) (x : X) → f m x ≡ g m x) → (xs : List X) → map_from n f xs ≡ map_from n g xs
map_from-same n f g same [] = refl
map_from-same n f g same (x ∷ xs) = ap (λ y. y ∷ map_from (n + 1) f xs) (same n x) ∙ ap (λ ys. g n x ∷ ys) (map_from-same (n + 1) f g same xs)

pub map_from-then : {X Y Z : Type 0} (n : ℕ) (f : ℕ → Y → Z) (g : ℕ → X → Y) (xs : List X)
    → map_from n f (map_from n g xs) ≡ map_from n (λ m x. f m (g m x)) xs
map_from-then n f g [] = refl
map_from-then n f g (x ∷ xs) = ap (λ ys. f n (g n x) ∷ ys) (map_from-then (n + 1) f g xs)

pub map_from-none : {X : Type 0} (n : ℕ) (f : ℕ → X → X) → ((m : ℕ) (x : X) → f m x ≡ x) → (xs : List X) → map_from n f xs ≡ xs
map_from-none n f same [] = refl
map_from-none n f same (x ∷ xs) = ap (λ y. y ∷ map_from (n + 1) f xs) (same n x) ∙ ap (λ ys. x ∷ ys) (map_from-none (n + 1) f same xs)

-- one element alone is changed
past : {X : Type 0} (f : X → X) (k n : ℕ) (xs : List X) → k < n → map_from n (λ m x. cond (eqb k m) (f x) x) xs ≡ xs
past f k n [] before = refl
past f k n (x ∷ xs) before =
    let other : k ≢ n = omega arith in
    ap (λ (b : Bool). cond b (f x) x ∷ map_from (n + 1) (λ m y. cond (eqb k m) (f y) y) xs) (ne_eqb k n other)
    ∙ ap (λ ys. x ∷ ys) (past f k (n + 1) xs (omega arith))

one : {X : Type 0} (f : X → X) (xs : List X) (i n k : ℕ) → k ≡ i + n → modify_at f xs i ≡ map_from n (λ m x. cond (eqb k m) (f x) x) xs
one f [] i n k is = refl
one f (x ∷ xs) zero n k is =
    let same : k ≡ n = omega arith in
    ap (λ ys. f x ∷ ys) (sym (past f k (n + 1) xs (omega arith)))
    ∙ ap (λ (b : Bool). cond b (f x) x ∷ map_from (n + 1) (λ m y. cond (eqb k m) (f y) y) xs) (sym (eq-eqb k n same))
one f (x ∷ xs) (suc i) n k is =
    let other : k ≢ n = omega arith in
    ap (λ ys. x ∷ ys) (one f xs i (n + 1) k (omega arith))
    ∙ ap (λ (b : Bool). cond b (f x) x ∷ map_from (n + 1) (λ m y. cond (eqb k m) (f y) y) xs) (sym (ne_eqb k n other))

pub modify_nth-map_from : {X : Type 0} (f : X → X) (xs : List X) (k : ℕ) → modify_nth f xs k ≡ map_from 1 (λ m x. cond (eqb k m) (f x) x) xs
modify_nth-map_from f xs zero = sym (past f 0 1 xs (omega arith))
modify_nth-map_from f xs (suc i) = modify_nth-suc f xs i ∙ one f xs i 1 (suc i) (omega arith)
