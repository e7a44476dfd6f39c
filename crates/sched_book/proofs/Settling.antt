-- What settlement makes of each workunit and each host.
use Rattle.std.proofs.Common.{◌≡◌, ℕ, zero, suc, ◌+◌, List, [], ◌∷◌, Option, Some, None, sym, refl, ap, ◌∙◌, arith}
use Rattle.std.specs.Prelude.{map, option_map, slice_get}
use Rattle.std.specs.List.{enumerate_from}
use Rattle.std.proofs.lemmas.Option.{slice_get-map}
use Rattle.sched_book.specs.Places.{nth}
use Rattle.sched_book.specs.Settle.{grown, with_grown, with_quota}
use Rattle.sched_book.specs.Laws.{SettlementIsPointwise}
use Rattle.sched_book.proofs.PlacesOf.{nth-suc}

pub nth-map : {X Y : Type 0} (f : X → Y) (xs : List X) (n : ℕ) → nth (map f xs) n ≡ option_map f (nth xs n)
nth-map f xs zero = refl
nth-map f xs (suc i) = nth-suc (map f xs) i ∙ slice_get-map f xs i ∙ ap (option_map f) (sym (nth-suc xs i))

-- a row with its place
pub slice_get-enumerate_from : {X : Type 0} (m : ℕ) (xs : List X) (i : ℕ) → slice_get (enumerate_from m xs) i ≡ option_map (λ x. (m + i, x)) (slice_get xs i)
slice_get-enumerate_from m [] i = refl
slice_get-enumerate_from m (x ∷ xs) zero = ap (λ n. Some (n, x)) (let same : m ≡ m + 0 = omega arith in same)
slice_get-enumerate_from m (x ∷ xs) (suc i) =
    slice_get-enumerate_from (m + 1) xs i
    ∙ ap (λ n. option_map (λ y. (n, y)) (slice_get xs i)) (let same : m + 1 + i ≡ m + suc i = omega arith in same)

pub nth-enumerate_from : {X : Type 0} (xs : List X) (n : ℕ) → nth (enumerate_from 1 xs) n ≡ option_map (λ x. (n, x)) (nth xs n)
nth-enumerate_from xs zero = refl
nth-enumerate_from xs (suc i) =
    nth-suc (enumerate_from 1 xs) i
    ∙ slice_get-enumerate_from 1 xs i
    ∙ ap (λ n. option_map (λ y. (n, y)) (slice_get xs i)) (let same : 1 + i ≡ suc i = omega arith in same)
    ∙ ap (option_map (λ y. (suc i, y))) (sym (nth-suc xs i))

pub twice : {X Y Z : Type 0} (f : Y → Z) (g : X → Y) (o : Option X) → option_map f (option_map g o) ≡ option_map (λ x. f (g x)) o
twice f g None = refl
twice f g (Some x) = refl

pub settlement_is_pointwise : SettlementIsPointwise
settlement_is_pointwise old changed = record {
  unit = λ n. nth-map (grown changed.apps) changed.units n;
  host = λ n.
      nth-map (with_quota old (with_grown changed)) (enumerate_from 1 changed.hosts) n
      ∙ ap (option_map (with_quota old (with_grown changed))) (nth-enumerate_from changed.hosts n)
      ∙ twice (with_quota old (with_grown changed)) (λ h. (n, h)) (nth changed.hosts n);
}
