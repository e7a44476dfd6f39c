use Rattle.std.proofs.Common.{◌≡◌, List}
use Rattle.sqlite.specs.Held.{state}
use Rattle.sched_book.specs.declared.instance.UnitBook.{UnitBook}
use Rattle.table_meaning.specs.Reads.{Reads}
use Rattle.table_reading.specs.Deadlines.{lowered_to_units}
use Rattle.table_reading.specs.Reading.{WereKnown}
use Rattle.table_reading.specs.Testing.{AreTested}
use Rattle.table_reading.proofs.UnitsTested.{AreNames, AreCounted}
use Rattle.table_reading.proofs.units.test_units.Given as goal

-- the workunits so far, with their names and totals, and the least deadline of what is held
abbrev pub invariant-loop-index : goal.invariant-loop-index
invariant-loop-index g l =
    let old = state g.S.Store l.fn.conn in
    let now = state g.S.Store l.conn in
    Reads old now
    × (WereKnown old now → (books : List UnitBook) × AreTested old.now.trees l.world l.counts l.index books × AreNames l.names books × AreCounted l.world.apps l.fn.totals books l.totals × (l.due_from ≡ lowered_to_units l.fn.due_from books))
