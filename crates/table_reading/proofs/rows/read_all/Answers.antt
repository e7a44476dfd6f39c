use Rattle.std.proofs.Common.{subst}
use Rattle.sqlite.specs.Held.{state}
use Rattle.table_rows.specs.Visits.{VisitsTables}
use Rattle.table_reading.specs.declared.rows.Reading.{Reading}
use Rattle.table_reading.specs.Reading.{all_tables}
use Rattle.table_reading.proofs.RowsTaken.{Takes, all_taken, all_utf8}
use Rattle.table_reading.proofs.rows.read_all.Goals as goal

pub returns-clause-rows : goal.returns-clause-rows
returns-clause-rows g c known =
    let trees = (state g.S.Store c.args.conn.now).now.trees in
    let read = c.read_tables.new.reading in
    all_taken trees read (subst (λ (r : Reading). VisitsTables Takes trees r all_tables read) c.new-reading.ensures (c.in_ok-read_tables.ensures.rows known))

pub returns-clause-utf8 : goal.returns-clause-utf8
returns-clause-utf8 g c known =
    let trees = (state g.S.Store c.args.conn.now).now.trees in
    all_utf8 trees c.new-reading.result c.read_tables.new.reading (c.in_ok-read_tables.ensures.rows known)
