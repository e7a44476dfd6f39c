use Rattle.std.proofs.Common.{true}
use Rattle.table_meaning.specs.declared.rows.StoredRow.TheVariants.{Batch}
use Rattle.table_meaning.specs.Rows.{batch_key, columns_of}
use Rattle.table_meaning.proofs.Reading.{row_shown_at}
use Rattle.sqlite.specs.Held.{state}
use Rattle.table_rows.proofs.FirstRows.{first_is}
use Rattle.table_rows.proofs.keyed.batch_of.Goals as goal

pub returns-clause-row : goal.returns-clause-row
returns-clause-row g c clean known =
    let old = state g.S.Store (record c.args.conn.now { in_transaction = true }) in
    first_is g.S.Store c.args.conn.now _ _ _ _ c.first_shown.result _ (λ after rows h. row_shown_at (batch_key c.args.kind.now c.args.name.now) old (state g.S.Store after) known rows (rw (c.as_bytes.ensures.value, c.as_bytes-2.ensures.value) at h)) (c.first_shown.ensures.first (λ b. columns_of (Batch b)) 4 (λ row x told. told.1.0) clean)
