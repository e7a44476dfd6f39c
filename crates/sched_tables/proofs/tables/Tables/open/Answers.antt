use Rattle.sqlite.specs.Held.{state}
use Rattle.table_rows.specs.Refusing.{fault_of}
use Rattle.table_reading.proofs.ReadsOn.{refused_on}
use Rattle.sched_tables.proofs.Refusals.{refused_for_all}
use Rattle.sched_tables.proofs.tables.Tables.open.Goals as goal

pub returns-in_err-adopt-clause-refused : goal.returns-in_err-adopt-clause-refused
returns-in_err-adopt-clause-refused g c = λ never.
    let e = c.in_err-adopt.field-0.0 in
    refused_on c.from_residual.result _ (fault_of e) c.from_residual.ensures.1 (refused_for_all g.S.Store never e (state g.S.Store c.args.conn).committed c.in_err-adopt.ensures.refused)
