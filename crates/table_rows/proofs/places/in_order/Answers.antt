use Rattle.std.proofs.Common.{◌≡◌, sym, subst, ◌∙◌, IsPermutation, IsSorted, rules}
use Rattle.std.proofs.lemmas.Fn.{always_returns_same}
use Rattle.std.proofs.lemmas.List.Sorted.{IsPermutation-trans}
use Rattle.table_meaning.specs.Places.{places_with_row}
use Rattle.table_meaning.proofs.PlacesOrder.{place_order, sorted_places}
use Rattle.table_rows.proofs.places.in_order.Goals as goal

pub returns : goal.returns
returns c = λ contents all test are same.
    let sorted : IsSorted place_order c.sort_unstable_by_key.new.self.items = c.sort_unstable_by_key.ensures.sorted (λ p. (p.unit, p.number)) (always_returns_same _ (λ a r. r ≡ (a.0.now.unit, a.0.now.number)) _ (λ a r q called. search rules)) in
    let listed : IsPermutation (places_with_row contents test all) c.into_vec-places.result.items = subst (IsPermutation (places_with_row contents test all)) (sym c.into_vec-places.ensures) same in
    c.of.ensures ∙ sorted_places contents all are test c.sort_unstable_by_key.new.self.items (IsPermutation-trans _ _ _ listed c.sort_unstable_by_key.ensures.permutation) sorted
