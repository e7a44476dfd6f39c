-- `all` over the numbers below a count passes if and only if the test holds for each of them.
use Rattle.std.proofs.Common.{◌≡◌, ℕ, ◌+◌, ◌<◌, Bool, length, get_or, sym, refl, ap, ◌∙◌, arith, rules, tests}
use Rattle.std.specs.Prelude.{◌↔◌, IsTrue}
use Rattle.std.specs.List.{list_all, range_with_len}
use Rattle.std.proofs.lemmas.Iterator.{YieldsList-from_range}
use Rattle.std.proofs.lemmas.Iterator.Search.{all_from_yields_List}
use Rattle.std.proofs.lemmas.List.FromFn.{length-range_with_len, get_or-range_with_len}
use Rattle.std.proofs.lemmas.List.Sums.{AllPass-from_list_all, list_all-from_AllPass}
use Rattle.sched_book.specs.Sound.{has_place}
use Rattle.world_soundness.proofs.sound_units.are_places_without_gap.Goals as goal

each_below : (p : ℕ → Bool) (count : ℕ) → IsTrue (list_all p (range_with_len 0 count)) ↔ ((n : ℕ) → n < count → IsTrue (p n))
each_below p count =
    let long : length (range_with_len 0 count) ≡ count = length-range_with_len 0 count in
    let at : (n d : ℕ) → n < count → get_or (range_with_len 0 count) n d ≡ n = λ n d lt. get_or-range_with_len 0 count n d lt ∙ omega arith in (
      λ all n lt. ap p (sym (at n 0 lt)) ∙ AllPass-from_list_all p (range_with_len 0 count) all n 0 (omega arith),
      λ each. list_all-from_AllPass p (range_with_len 0 count) (λ k d lt. let below : k < count = omega arith in ap p (at k d below) ∙ each k below),
    )

pub returns : goal.returns
returns c =
    let test = λ (n : ℕ). has_place c.args.instances.now (n + 1) in
    let all : c.all.result ≡ list_all test (range_with_len 0 c.args.judged) =
    all_from_yields_List test _ _ c.all.result c.all.ensures.ran (YieldsList-from_range 0 c.args.judged c.args.judged refl (omega arith)) (λ x b q k. search (rules, tests)) in
    let each = each_below test c.args.judged in
    (λ is. each.0 (sym all ∙ is), λ holds. all ∙ each.1 holds)
