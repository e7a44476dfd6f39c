use Rattle.sqlite.specs.Held.{state}
use Rattle.table_meaning.specs.Reads.{Reads}
use Rattle.table_reading.specs.Reading.{WereKnown}
use Rattle.table_reading.specs.Testing.{AreInstancesFound}
use Rattle.table_reading.proofs.units.instance_rows.Given as goal

abbrev pub invariant-loop-number : goal.invariant-loop-number
invariant-loop-number g l =
    let old = state g.S.Store l.fn.conn in
    let now = state g.S.Store l.conn in
    Reads old now × (WereKnown old now → AreInstancesFound old.now.trees l.id l.number l.rows)
