-- Lists whose rows are made from the rows of a list and their numbers, which count from 1.
use Rattle.std.proofs.Common.{◌≡◌, ℕ, zero, suc, ◌≤◌, Bool, true, false, cond, eqb, List, length, Option, Some, None, sym, refl, ap, ◌∙◌, arith}
use Rattle.std.proofs.lemmas.Bool.{eqb-true}
use Rattle.std.proofs.lemmas.List.{length-map}
use Rattle.std.proofs.lemmas.List.FromFn.{length-enumerate_from}
use Rattle.std.proofs.lemmas.Option.{slice_get_within}
use Rattle.std.specs.Prelude.{map, option_map}
use Rattle.std.specs.List.{enumerate_from}
use Rattle.sched_book.specs.Places.{nth}
use Rattle.sched_book.specs.Delta.{set_nth}
use Rattle.sched_book.proofs.PlacesOf.{nth-suc}
use Rattle.quorum_credit.specs.Tallies.{number_got}
use Rattle.sched_book.proofs.ByPlace.{same_by_place, nth-map_places}
use Rattle.call_working_set.proofs.SetRows.{nth-set_nth}

pub length-numbered : {X Y : Type 0} (f : ℕ × X → Y) (xs : List X) → length (map f (enumerate_from 1 xs)) ≡ length xs
length-numbered f xs = length-map (enumerate_from 1 xs) f ∙ length-enumerate_from 1 xs

-- the lists are equal if the functions agree on the rows that exist
pub same_rows : {X Y : Type 0} (f g : ℕ × X → Y) (xs : List X) → ((n : ℕ) (x : X) → nth xs n ≡ Some x → f (n, x) ≡ g (n, x))
    → map f (enumerate_from 1 xs) ≡ map g (enumerate_from 1 xs)
same_rows {X} f g xs same =
    same_by_place (map f (enumerate_from 1 xs)) (map g (enumerate_from 1 xs))
    (λ n. nth-map_places f xs n ∙ cases n (nth xs n) refl ∙ sym (nth-map_places g xs n))
  where
    cases : (n : ℕ) (o : Option X) → nth xs n ≡ o → option_map (λ x. f (n, x)) o ≡ option_map (λ x. g (n, x)) o
    cases n None is = refl
    cases n (Some x) is = ap Some (same n x is)

pub same_row : {X : Type 0} (xs : List X) → map (λ e. e.1) (enumerate_from 1 xs) ≡ xs
same_row {X} xs = same_by_place (map (λ e. e.1) (enumerate_from 1 xs)) xs (λ n. nth-map_places (λ e. e.1) xs n ∙ cases (nth xs n))
  where
    cases : (o : Option X) → option_map (λ x. x) o ≡ o
    cases None = refl
    cases (Some x) = refl

-- an existing row has a number from 1 to their count
pub number_within : {X : Type 0} (xs : List X) (n : ℕ) (x : X) → nth xs n ≡ Some x → (1 ≤ n) × (n ≤ length xs)
number_within xs zero x stands = absurd cc
number_within xs (suc i) x stands = let within = slice_get_within xs i x (sym (nth-suc xs i) ∙ stands) in (omega arith, omega arith)

-- a row put at the number of an existing one
pub put_row : {X : Type 0} (f : ℕ × X → X) (h : X → X) (xs : List X) (n : ℕ) (x : X) → nth xs n ≡ Some x
    → set_nth (map f (enumerate_from 1 xs)) n (h x) ≡ map (λ e. cond (eqb n e.0) (h e.1) (f e)) (enumerate_from 1 xs)
put_row {X} f h xs n x stands =
    same_by_place (set_nth rows n (h x)) (map put (enumerate_from 1 xs)) (λ m. before m ∙ cases m (eqb n m) refl (nth xs m) refl ∙ sym (nth-map_places put xs m))
  where
    rows : List X
    rows = map f (enumerate_from 1 xs)

    put : ℕ × X → X
    put e = cond (eqb n e.0) (h e.1) (f e)

    before : (m : ℕ) → nth (set_nth rows n (h x)) m ≡ cond (eqb n m) (Some (h x)) (option_map (λ y. f (m, y)) (nth xs m))
    before m =
        let within = number_within xs n x stands in
        let long : length rows ≡ length xs = length-numbered f xs in
        let got : number_got (length rows) n ≡ n = omega arith in
        nth-set_nth rows n (h x) m
        ∙ ap (λ (b : Bool). cond b (nth rows m) (cond (eqb (number_got (length rows) n) m) (Some (h x)) (nth rows m))) (let some : eqb n 0 ≡ false = grind arith in some)
        ∙ ap (λ k. cond (eqb k m) (Some (h x)) (nth rows m)) got
        ∙ ap (λ o. cond (eqb n m) (Some (h x)) o) (nth-map_places f xs m)

    cases : (m : ℕ) (b : Bool) → eqb n m ≡ b → (o : Option X) → nth xs m ≡ o
        → cond b (Some (h x)) (option_map (λ y. f (m, y)) o) ≡ option_map (λ y. cond (eqb n m) (h y) (f (m, y))) o
    cases m true is None none = let same : n ≡ m = eqb-true n m is in absurd cc
    cases m true is (Some y) there =
        let same : n ≡ m = eqb-true n m is in
        let row : x ≡ y = cc in
        ap (λ z. Some (h z)) row ∙ sym (ap (λ (b : Bool). Some (cond b (h y) (f (m, y)))) is)
    cases m false is None none = refl
    cases m false is (Some y) there = sym (ap (λ (b : Bool). Some (cond b (h y) (f (m, y)))) is)
