use Rattle.sqlite.specs.Held.{state}
use Rattle.table_meaning.proofs.Upgrading.{schema_put}
use Rattle.table_upgrades.proofs.steps.put_schema.Goals as goal

pub returns-clause-puts : goal.returns-clause-puts
returns-clause-puts g c clean inside =
    let old = state g.S.Store c.args.tx.now.conn.now in
    let new = state g.S.Store c.execute.new.self.conn.now in
    schema_put c.args.schema c.requires old new c.in_ok-execute.field-0 (rw (c.as_bytes.ensures.value, c.whole.ensures) at (c.in_ok-execute.ensures.runs clean inside))
