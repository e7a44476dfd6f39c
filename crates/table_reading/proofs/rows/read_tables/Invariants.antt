use Rattle.std.proofs.Common.{◌≡◌, take}
use Rattle.sqlite.specs.Held.{state}
use Rattle.table_meaning.specs.Reads.{Reads}
use Rattle.table_rows.specs.Visits.{VisitsTables}
use Rattle.table_reading.specs.Reading.{WereKnown, with_row}
use Rattle.table_reading.proofs.rows.read_tables.Given as goal

abbrev pub invariant-loop-table : goal.invariant-loop-table
invariant-loop-table g l =
    let old = state g.S.Store l.fn.conn in
    let now = state g.S.Store l.conn in
    Reads old now × (WereKnown old now → VisitsTables (λ before row after. after ≡ with_row before row) old.now.trees l.fn.reading (take l.table-index l.tables) l.reading)
