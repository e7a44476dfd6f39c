-- Sorted places are in the order in which the list of all places has them.
use Rattle.std.proofs.Common.{◌≡◌, Bool, List, refl, inl, inr, arith, Ordering, Less, Equal, IsPermutation, IsSorted}
use Rattle.std.specs.Cmp.{IsTotalOrder}
use Rattle.std.specs.Ordering.{nat_cmp, ordering_then}
use Rattle.std.proofs.lemmas.Cmp.{nat_cmp_total, on_total, then_total}
use Rattle.sched_book.specs.declared.instance.Place.{Place}
use Rattle.sqlite_value.specs.Order.{Row}
use Rattle.sqlite_keyed.proofs.ListLemmas.{ascending_weaker, ascending-filter}
use Rattle.sqlite_keyed.proofs.SortLemmas.{sorted_unique}
use Rattle.table_meaning.specs.Holding.{Contents}
use Rattle.table_meaning.specs.Places.{instance_row_at, IsBefore, AreAllPlaces, shows_passing, places_with_row}

-- by the workunit, and then by the number
abbrev pub place_order : Place → Place → Ordering
place_order a b = ordering_then (nat_cmp a.unit b.unit) (nat_cmp a.number b.number)

total : IsTotalOrder place_order
total = then_total (on_total (λ (p : Place). p.unit) nat_cmp_total) (on_total (λ (p : Place). p.number) nat_cmp_total)

before_is_less : (a b : Place) → IsBefore a b → place_order a b ≡ Less
before_is_less a b (inl lower) = let less : nat_cmp a.unit b.unit ≡ Less = grind arith in rw less refl
before_is_less a b (inr same) =
    let here : nat_cmp a.unit b.unit ≡ Equal = grind arith in
    let less : nat_cmp a.number b.number ≡ Less = grind arith in
    rw (here, less) refl

pub sorted_places : (contents : Contents) (places : List Place) → AreAllPlaces contents places → (test : Row → Bool) (ps : List Place) → IsPermutation (places_with_row contents test places) ps → IsSorted place_order ps
    → ps ≡ places_with_row contents test places
sorted_places contents places are test ps same sorted =
    sorted_unique place_order total (places_with_row contents test places) ps
    (ascending-filter (λ a b. place_order a b ≡ Less) (λ p. shows_passing test (instance_row_at contents p)) places (ascending_weaker IsBefore (λ a b. place_order a b ≡ Less) before_is_less places are.rise)) same sorted
