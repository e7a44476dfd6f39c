use Rattle.std.proofs.Common.{◌≡◌, List, drop}
use Rattle.sched_book.specs.declared.instance.UnitBook.{UnitBook}
use Rattle.table_worlds.specs.RowsOf.{having, IsOtherTable}
use Rattle.table_worlds.specs.Totals.{totals_of}
use Rattle.table_worlds.proofs.Members.{LeftOr}
use Rattle.table_worlds.proofs.matching.are_tables.Given as goal

-- the tables so far are the world's
abbrev pub invariant-loop-table : goal.invariant-loop-table
invariant-loop-table l = (books : List UnitBook) → l.totals ≡ totals_of (having l.world books) → LeftOr (IsOtherTable (having l.world books) l.rows) l.tables (drop l.table-index l.tables)
