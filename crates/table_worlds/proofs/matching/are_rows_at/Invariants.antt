use Rattle.std.proofs.Common.{◌≡◌, List, drop}
use Rattle.sched_book.specs.declared.instance.UnitBook.{UnitBook}
use Rattle.table_worlds.specs.Keys.{other_row}
use Rattle.table_worlds.specs.RowsOf.{having}
use Rattle.table_worlds.specs.Totals.{totals_of}
use Rattle.table_worlds.proofs.Members.{SameLeft}
use Rattle.table_worlds.proofs.matching.are_rows_at.Given as goal

abbrev pub invariant-loop-key : goal.invariant-loop-key
invariant-loop-key l = (books : List UnitBook) → l.totals ≡ totals_of (having l.world books) → SameLeft (other_row (having l.world books)) l.rows l.left l.keys (drop l.key-index l.keys)
