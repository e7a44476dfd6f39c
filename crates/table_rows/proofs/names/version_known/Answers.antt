use Rattle.std.proofs.Common.{true}
use Rattle.table_meaning.proofs.Named.{version_shown}
use Rattle.sqlite.specs.Held.{state}
use Rattle.table_rows.proofs.FirstRows.{first_is}
use Rattle.table_rows.proofs.names.version_known.Goals as goal

pub returns-clause-first : goal.returns-clause-first
returns-clause-first g c clean known =
    let old = state g.S.Store (record c.args.conn.now { in_transaction = true }) in
    first_is g.S.Store c.args.conn.now _ _ _ _ c.first_number.result _ (λ after rows h. version_shown c.args.app c.args.platform.now c.args.num old (state g.S.Store after) known rows (rw (c.whole.ensures, c.as_bytes.ensures.value, c.whole-2.ensures) at h)) (c.first_number.ensures.first clean)
