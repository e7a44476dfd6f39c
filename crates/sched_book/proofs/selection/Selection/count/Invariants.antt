use Rattle.std.proofs.Common.{◌≡◌, ◌≤◌, ◌*◌, take}
use Rattle.std.specs.Prelude.{count_by, sum_by}
use Rattle.sched_book.specs.Selections.{includes}
use Rattle.sched_book.specs.declared.instance.UnitBook.{UnitBook}
use Rattle.sched_book.proofs.selection.Selection.count.Given as goal

abbrev pub invariant-loop-book : goal.invariant-loop-book
invariant-loop-book l = record {
  counted : l.count ≡ sum_by (λ (b : UnitBook). count_by (includes l.world.hosts l.self) b.instances) (take l.book-index l.world.units);
  few : l.count ≤ l.book-index * 100;
}
