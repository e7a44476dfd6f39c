-- Places of a list that gets one more element, or of which one element is changed.
use Rattle.std.proofs.Common.{◌≡◌, ℕ, zero, suc, ◌+◌, ◌-◌, ◌<◌, ◌≤◌, Bool, true, false, cond, eqb, List, [], ◌∷◌, ◌++◌, length, Option, Some, None, sym, refl, ap, ◌∙◌, arith}
use Rattle.std.proofs.Math.Dec.{eqb-suc-zero, eqb-zero-suc, eqb-suc-suc}
use Rattle.std.proofs.Math.Numerals.{add-one}
use Rattle.std.proofs.lemmas.Iterator.Adapters.{position_from-zero}
use Rattle.std.specs.Prelude.{find, is_some, option_map, option_and_then, slice_get}
use Rattle.std.specs.Option.{option_or}
use Rattle.std.specs.List.{position_from}
use Rattle.sched_book.specs.Places.{nth, place_where}
use Rattle.sched_book.specs.Reports.{modify_at, modify_nth}

-- the element at a place after zero
pub nth-suc : {X : Type 0} (xs : List X) (i : ℕ) → nth xs (suc i) ≡ slice_get xs i
nth-suc xs i =
    ap (λ (b : Bool). cond b None (slice_get xs (suc i - 1))) (eqb-suc-zero i)
    ∙ ap (slice_get xs) (let same : suc i - 1 ≡ i = omega arith in same)

-- a place within a list
pub is_there : {X : Type 0} (xs : List X) (i : ℕ) → i < length xs → is_some (slice_get xs i) ≡ true
is_there [] i within = absurd (omega arith)
is_there (x ∷ xs) zero within = refl
is_there (x ∷ xs) (suc i) within = is_there xs i (omega arith)

pub is_some-option_map : {X Y : Type 0} (f : X → Y) (o : Option X) → is_some (option_map f o) ≡ is_some o
is_some-option_map f None = refl
is_some-option_map f (Some x) = refl

pub nth-within : {X : Type 0} (xs : List X) (n : ℕ) → 1 ≤ n → n ≤ length xs → is_some (nth xs n) ≡ true
nth-within xs zero low high = absurd (omega arith)
nth-within xs (suc i) low high = ap is_some (nth-suc xs i) ∙ is_there xs i (omega arith)

pub modify_nth-suc : {X : Type 0} (f : X → X) (xs : List X) (i : ℕ) → modify_nth f xs (suc i) ≡ modify_at f xs i
modify_nth-suc f xs i =
    ap (λ (b : Bool). cond b xs (modify_at f xs (suc i - 1))) (eqb-suc-zero i)
    ∙ ap (modify_at f xs) (let same : suc i - 1 ≡ i = omega arith in same)

-- an element of a list is at the same index in a longer list
pub slice_get-front : {X : Type 0} (xs more : List X) (i : ℕ) (x : X) → slice_get xs i ≡ Some x → slice_get (xs ++ more) i ≡ Some x
slice_get-front [] more i x is = absurd cc
slice_get-front (y ∷ xs) more zero x is = is
slice_get-front (y ∷ xs) more (suc i) x is = slice_get-front xs more i x is

pub nth-front : {X : Type 0} (xs more : List X) (n : ℕ) (x : X) → nth xs n ≡ Some x → nth (xs ++ more) n ≡ Some x
nth-front xs more zero x is = absurd cc
nth-front xs more (suc i) x is = nth-suc (xs ++ more) i ∙ slice_get-front xs more i x (sym (nth-suc xs i) ∙ is)

-- one more element, after the others
pub slice_get-push : {X : Type 0} (xs : List X) (x : X) (i : ℕ) → slice_get (xs ++ x ∷ []) i ≡ cond (eqb (length xs) i) (Some x) (slice_get xs i)
slice_get-push [] x zero = refl
slice_get-push [] x (suc i) = sym (ap (λ (b : Bool). cond b (Some x) None) (eqb-zero-suc i))
slice_get-push (y ∷ ys) x zero = sym (ap (λ (b : Bool). cond b (Some x) (Some y)) (eqb-suc-zero (length ys)))
slice_get-push (y ∷ ys) x (suc i) =
    slice_get-push ys x i ∙ sym (ap (λ (b : Bool). cond b (Some x) (slice_get ys i)) (eqb-suc-suc (length ys) i))

pub nth-push : {X : Type 0} (xs : List X) (x : X) (n : ℕ) → nth (xs ++ x ∷ []) n ≡ cond (eqb (length xs + 1) n) (Some x) (nth xs n)
nth-push xs x zero =
    sym (ap (λ m. cond (eqb m zero) (Some x) None) (add-one (length xs)) ∙ ap (λ (b : Bool). cond b (Some x) None) (eqb-suc-zero (length xs)))
nth-push xs x (suc i) =
    nth-suc (xs ++ x ∷ []) i
    ∙ slice_get-push xs x i
    ∙ ap (λ o. cond (eqb (length xs) i) (Some x) o) (sym (nth-suc xs i))
    ∙ sym (ap (λ m. cond (eqb m (suc i)) (Some x) (nth xs (suc i))) (add-one (length xs))
    ∙ ap (λ (b : Bool). cond b (Some x) (nth xs (suc i))) (eqb-suc-suc (length xs) i))

-- one element changed
pub length-modify_at : {X : Type 0} (f : X → X) (xs : List X) (i : ℕ) → length (modify_at f xs i) ≡ length xs
length-modify_at f [] i = refl
length-modify_at f (x ∷ xs) zero = refl
length-modify_at f (x ∷ xs) (suc i) = ap suc (length-modify_at f xs i)

pub length-modify_nth : {X : Type 0} (f : X → X) (xs : List X) (n : ℕ) → length (modify_nth f xs n) ≡ length xs
length-modify_nth f xs zero = refl
length-modify_nth f xs (suc i) = ap length (modify_nth-suc f xs i) ∙ length-modify_at f xs i

pub same_none : {X : Type 0} (b : Bool) (o : Option X) → o ≡ cond b o o
same_none true o = refl
same_none false o = refl

pub slice_get-modify_at : {X : Type 0} (f : X → X) (xs : List X) (i j : ℕ)
    → slice_get (modify_at f xs i) j ≡ cond (eqb i j) (option_map f (slice_get xs j)) (slice_get xs j)
slice_get-modify_at f [] i j = same_none (eqb i j) None
slice_get-modify_at f (x ∷ xs) zero zero = refl
slice_get-modify_at f (x ∷ xs) zero (suc j) =
    sym (ap (λ (b : Bool). cond b (option_map f (slice_get xs j)) (slice_get xs j)) (eqb-zero-suc j))
slice_get-modify_at f (x ∷ xs) (suc i) zero = sym (ap (λ (b : Bool). cond b (Some (f x)) (Some x)) (eqb-suc-zero i))
slice_get-modify_at f (x ∷ xs) (suc i) (suc j) =
    slice_get-modify_at f xs i j
    ∙ sym (ap (λ (b : Bool). cond b (option_map f (slice_get xs j)) (slice_get xs j)) (eqb-suc-suc i j))

pub nth-modify_nth : {X : Type 0} (f : X → X) (xs : List X) (n m : ℕ)
    → nth (modify_nth f xs n) m ≡ cond (eqb n m) (option_map f (nth xs m)) (nth xs m)
nth-modify_nth f xs zero zero = refl
nth-modify_nth f xs zero (suc j) = sym (ap (λ (b : Bool). cond b (option_map f (nth xs (suc j))) (nth xs (suc j))) (eqb-zero-suc j))
nth-modify_nth f xs (suc i) zero = sym (ap (λ (b : Bool). cond b None None) (eqb-suc-zero i))
nth-modify_nth f xs (suc i) (suc j) =
    ap (λ ys. nth ys (suc j)) (modify_nth-suc f xs i)
    ∙ nth-suc (modify_at f xs i) j
    ∙ slice_get-modify_at f xs i j
    ∙ ap (λ o. cond (eqb i j) (option_map f o) o) (sym (nth-suc xs j))
    ∙ sym (ap (λ (b : Bool). cond b (option_map f (nth xs (suc j))) (nth xs (suc j))) (eqb-suc-suc i j))

-- the first place that passes, by recursion
shift : {X : Type 0} (p : X → Bool) (n : ℕ) (xs : List X) → position_from p (n + 1) xs ≡ option_map (λ i. i + 1) (position_from p n xs)
shift p n [] = refl
shift p n (x ∷ xs) = cases (p x) _ _ (shift p (n + 1) xs)
  where
    cases : (b : Bool) (o next : Option ℕ) → o ≡ option_map (λ i. i + 1) next
        → cond b (Some (n + 1)) o ≡ option_map (λ i. i + 1) (cond b (Some n) next)
    cases true o next same = refl
    cases false o next same = same

pub place_where-is : {X : Type 0} (p : X → Bool) (xs : List X) → place_where p xs ≡ position_from p 1 xs
place_where-is p xs = ap (option_map (λ i. i + 1)) (position_from-zero p xs) ∙ sym (shift p 0 xs)

position_from-push : {X : Type 0} (p : X → Bool) (n : ℕ) (xs : List X) (x : X)
    → position_from p n (xs ++ x ∷ []) ≡ option_or (position_from p n xs) (cond (p x) (Some (length xs + n)) None)
position_from-push p n [] x = ap (λ m. cond (p x) (Some m) None) (let same : n ≡ 0 + n = omega arith in same)
position_from-push p n (y ∷ ys) x =
    cases (p y) _ _ _ (position_from-push p (n + 1) ys x
    ∙ ap (λ m. option_or (position_from p (n + 1) ys) (cond (p x) (Some m) None))
    (let same : length ys + (n + 1) ≡ suc (length ys) + n = omega arith in same))
  where
    cases : (b : Bool) (o old last : Option ℕ) → o ≡ option_or old last → cond b (Some n) o ≡ option_or (cond b (Some n) old) last
    cases true o old last same = refl
    cases false o old last same = same

pub place_where-push : {X : Type 0} (p : X → Bool) (xs : List X) (x : X)
    → place_where p (xs ++ x ∷ []) ≡ option_or (place_where p xs) (cond (p x) (Some (length xs + 1)) None)
place_where-push p xs x =
    place_where-is p (xs ++ x ∷ [])
    ∙ position_from-push p 1 xs x
    ∙ ap (λ o. option_or o (cond (p x) (Some (length xs + 1)) None)) (sym (place_where-is p xs))

-- a change that does not affect the test
position_from-modify_at : {X : Type 0} (p : X → Bool) (f : X → X) → ((x : X) → p (f x) ≡ p x) → (n : ℕ) (xs : List X) (i : ℕ)
    → position_from p n (modify_at f xs i) ≡ position_from p n xs
position_from-modify_at p f same n [] i = refl
position_from-modify_at p f same n (x ∷ xs) zero = ap (λ (b : Bool). cond b (Some n) (position_from p (n + 1) xs)) (same x)
position_from-modify_at p f same n (x ∷ xs) (suc i) = ap (λ o. cond (p x) (Some n) o) (position_from-modify_at p f same (n + 1) xs i)

pub place_where-modify_nth : {X : Type 0} (p : X → Bool) (f : X → X) → ((x : X) → p (f x) ≡ p x) → (xs : List X) (n : ℕ)
    → place_where p (modify_nth f xs n) ≡ place_where p xs
place_where-modify_nth p f same xs zero = refl
place_where-modify_nth p f same xs (suc i) =
    ap (place_where p) (modify_nth-suc f xs i)
    ∙ place_where-is p (modify_at f xs i)
    ∙ position_from-modify_at p f same 1 xs i
    ∙ sym (place_where-is p xs)

-- the first element that passes is at the first place that passes
find_at : {X : Type 0} (p : X → Bool) (xs : List X) → find p xs ≡ option_and_then (slice_get xs) (position_from p 0 xs)
find_at {X} p [] = refl
find_at {X} p (x ∷ xs) = cases (p x) (position_from p 0 xs) _ (find_at p xs) ∙ ap (λ o. option_and_then (slice_get (x ∷ xs)) (cond (p x) (Some 0) o)) (sym (shift p 0 xs))
  where
    later : (o : Option ℕ) → option_and_then (slice_get xs) o ≡ option_and_then (slice_get (x ∷ xs)) (option_map (λ i. i + 1) o)
    later None = refl
    later (Some i) = sym (ap (slice_get (x ∷ xs)) (add-one i))

    cases : (b : Bool) (o : Option ℕ) (found : Option X) → found ≡ option_and_then (slice_get xs) o
        → cond b (Some x) found ≡ option_and_then (slice_get (x ∷ xs)) (cond b (Some 0) (option_map (λ i. i + 1) o))
    cases true o found is = refl
    cases false o found is = is ∙ later o

pub find-is : {X : Type 0} (p : X → Bool) (xs : List X) → find p xs ≡ option_and_then (nth xs) (place_where p xs)
find-is p xs =
    find_at p xs
    ∙ at_places (position_from p 0 xs)
    ∙ ap (λ o. option_and_then (nth xs) (option_map (λ i. i + 1) o)) (sym (position_from-zero p xs))
  where
    at_places : (o : Option ℕ) → option_and_then (slice_get xs) o ≡ option_and_then (nth xs) (option_map (λ i. i + 1) o)
    at_places None = refl
    at_places (Some i) = sym (ap (nth xs) (add-one i) ∙ nth-suc xs i)

-- the element at the place that was found passes
abbrev pub FoundFrom : {X : Type 0} → (X → Bool) → ℕ → List X → ℕ → Type 0
FoundFrom {X} p m xs n = (i : ℕ) × (x : X) × (n ≡ m + i) × (slice_get xs i ≡ Some x) × (p x ≡ true)

pub found_from : {X : Type 0} (p : X → Bool) (m : ℕ) (xs : List X) (n : ℕ) → position_from p m xs ≡ Some n → FoundFrom p m xs n
found_from p m [] n is = absurd cc
found_from {X} p m (y ∷ ys) n is = cases (p y) refl is (found_from p (m + 1) ys n)
  where
    cases : (b : Bool) → p y ≡ b → cond b (Some m) (position_from p (m + 1) ys) ≡ Some n
        → (position_from p (m + 1) ys ≡ Some n → FoundFrom p (m + 1) ys n) → FoundFrom p m (y ∷ ys) n
    cases true pass is later = let same : m ≡ n = cc in (0, y, omega arith, refl, pass)
    cases false pass is later = let there = later is in (suc there.0, there.1, omega (arith, there.2), there.3, there.4)
