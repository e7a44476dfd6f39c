use Rattle.std.proofs.Common.{◌≡◌, true, Some, subst}
use Rattle.std.specs.Bool.{Decides}
use Rattle.sqlite.specs.Held.{state}
use Rattle.table_meaning.specs.Rows.{whole}
use Rattle.table_meaning.proofs.SchemaSaid.{said_shown}
use Rattle.table_rows.proofs.schemas.says_schema.Goals as goal

pub returns-clause-said : goal.returns-clause-said
returns-clause-said g c clean is known =
    let n = c.args.schema in
    let shows = c.in_ok-rows.ensures.shown clean in
    let old = state g.S.Store (record c.args.conn.now { in_transaction = true }) in
    let first = said_shown n is old (state g.S.Store shows.0) known c.in_ok-rows.rows.items (rw c.as_bytes.ensures.value at shows.1) in
    subst (λ said. Decides c.begins_with.result (said ≡ Some (whole n))) first (rw c.as_slice.ensures.value at c.begins_with.ensures)
