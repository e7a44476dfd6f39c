use Rattle.std.proofs.Common.{◌≡◌, ◌≤◌, ◌*◌, ◌^◌, take}
use Rattle.std.specs.Prelude.{sum_by}
use Rattle.sched_book.specs.Selections.{credit_of}
use Rattle.sched_book.proofs.selection.Selection.credit.Given as goal

abbrev pub invariant-loop-book : goal.invariant-loop-book
invariant-loop-book l = record {
  summed : l.credit ≡ sum_by (credit_of l.world.hosts l.world.apps l.self) (take l.book-index l.world.units);
  small : l.credit ≤ l.book-index * (100 * 2 ^ 32);
}
