use Rattle.std.proofs.Common.{◌≡◌, ℕ, List, [], length, false, sym, subst, ◌∙◌, rules}
use Rattle.std.proofs.lemmas.Bool.{both_ways}
use Rattle.std.proofs.lemmas.List.{with_items_is}
use Rattle.sqlite.specs.Held.{state}
use Rattle.sched_book.specs.Places.{overdue}
use Rattle.sched_book.specs.declared.instance.UnitBook.{UnitBook}
use Rattle.table_worlds.specs.RowsOf.{having, AreOtherRows}
use Rattle.table_reading.specs.Testing.{AreTested}
use Rattle.table_reading.proofs.NoneDue.{none_is_due}
use Rattle.table_reading.proofs.UnitsTested.{counted_from, one_list}
use Rattle.table_reading.proofs.world.test_rows.Goals as goal

pub returns-then-branch-clause-stand : goal.returns-then-branch-clause-stand
returns-then-branch-clause-stand g c = λ was.
    let w = c.args.world.now in
    let tested = c.in_ok-test_units.ensures.stand was in
    let count : c.len.result ≡ length w.hosts = search rules in
    let none : c.as_mut_slice.result.now ≡ c.in_ok-totals.totals.items = search rules in
    let counts : c.as_slice.result.now ≡ c.args.reading.now.units.counts = search rules in
    let few : length c.test_units.new.totals ≡ c.in_ok-totals.totals.len = c.test_units.auto.totals ∙ c.as_mut_slice.ensures.len in
    let totals : c.as_slice-2.result.now ≡ c.test_units.new.totals = c.as_slice-2.ensures.value ∙ with_items_is c.in_ok-totals.totals c.test_units.new.totals few in
    let counted = counted_from w tested.0 c.len.result c.as_mut_slice.result.now c.test_units.new.totals count (none ∙ c.in_ok-totals.ensures) tested.2 in (
      tested.0,
      subst (λ (ns : List ℕ). AreTested (state g.S.Store c.args.conn.now).now.trees w ns (length ns) tested.0) counts tested.1,
      (c.in_ok-are_other_rows.ensures tested.0 (totals ∙ counted)).0 (search rules),
      subst (λ n. overdue (having w tested.0) n ≡ []) (sym tested.3) (none_is_due w _ tested.0),
    )

pub returns-clause-bad : goal.returns-clause-bad
returns-clause-bad g c = λ was is books stand beside.
    let w = c.args.world.now in
    let trees = (state g.S.Store c.args.conn.now).now.trees in
    let reading = c.args.reading.now in
    let tested = c.in_ok-test_units.ensures.stand was in
    let count : c.len.result ≡ length w.hosts = search rules in
    let none : c.as_mut_slice.result.now ≡ c.in_ok-totals.totals.items = search rules in
    let counts : c.as_slice.result.now ≡ reading.units.counts = search rules in
    let few : length c.test_units.new.totals ≡ c.in_ok-totals.totals.len = c.test_units.auto.totals ∙ c.as_mut_slice.ensures.len in
    let totals : c.as_slice-2.result.now ≡ c.test_units.new.totals = c.as_slice-2.ensures.value ∙ with_items_is c.in_ok-totals.totals c.test_units.new.totals few in
    let counted = counted_from w tested.0 c.len.result c.as_mut_slice.result.now c.test_units.new.totals count (none ∙ c.in_ok-totals.ensures) tested.2 in
    let same = one_list trees w reading.units.counts books tested.0 stand (subst (λ (ns : List ℕ). AreTested trees w ns (length ns) tested.0) counts tested.1) in
    let other : c.in_ok-are_other_rows.field-0 ≡ false = search rules in
    both_ways _ other ((c.in_ok-are_other_rows.ensures tested.0 (totals ∙ counted)).1 (subst (λ (bs : List UnitBook). AreOtherRows (having w bs) reading.rows) same beside))
