use Rattle.std.proofs.Common.{◌≡◌, IsTrue, sym, subst}
use Rattle.std.proofs.lemmas.Result.{IfErr-weaker}
use Rattle.sched_book.specs.Sound.{IsSoundUnit}
use Rattle.sched_book.specs.declared.instance.UnitBook.{UnitBook}
use Rattle.table_worlds.specs.RowsOf.{rows_of_unit}
use Rattle.table_reading.specs.Testing.{has_name}
use Rattle.table_reading.proofs.UnitsTested.{on_ok_each}
use Rattle.table_reading.proofs.units.test_rows.Goals as goal

pub returns-clause-passes : goal.returns-clause-passes
returns-clause-passes c =
    on_ok_each c.test_book.result _ _ _ _ (λ passes name counts. (c.in-Ok.book, passes.0, passes.1, name.0, name.1, counts.0, counts.1)) c.test_book.ensures.passes c.test_book.ensures.name c.test_book.ensures.counts

pub returns-clause-bad : goal.returns-clause-bad
returns-clause-bad c =
    IfErr-weaker c.test_book.result _ _
    (λ e bad is b sound are.
    let w = c.args.world.now in
    let same : c.in-Ok.book ≡ b = c.in-Ok.ensures w c.args.id b c.as_slice.ensures sound are in
    subst (λ (a : UnitBook). IsTrue (has_name c.args.names.now a.unit.name)) same
    (bad is (subst (IsSoundUnit w.hosts w.apps) (sym same) sound) (subst (λ (a : UnitBook). c.args.rows.now ≡ rows_of_unit w c.args.id a) (sym same) are))) c.test_book.ensures.bad
