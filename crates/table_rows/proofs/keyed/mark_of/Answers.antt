use Rattle.std.proofs.Common.{true}
use Rattle.table_meaning.specs.declared.rows.StoredRow.TheVariants.{UnitMark}
use Rattle.table_meaning.specs.Rows.{mark_key, columns_of}
use Rattle.table_meaning.proofs.Reading.{row_shown_at}
use Rattle.sqlite.specs.Held.{state}
use Rattle.table_rows.proofs.FirstRows.{first_is}
use Rattle.table_rows.proofs.keyed.mark_of.Goals as goal

pub returns-clause-row : goal.returns-clause-row
returns-clause-row g c clean known =
    let old = state g.S.Store (record c.args.conn.now { in_transaction = true }) in
    first_is g.S.Store c.args.conn.now _ _ _ _ c.first_shown.result _ (λ after rows h. row_shown_at (mark_key c.args.unit) old (state g.S.Store after) known rows (rw c.whole.ensures at h)) (c.first_shown.ensures.first (λ m. columns_of (UnitMark m)) 3 (λ row x told. told.1.0) clean)
