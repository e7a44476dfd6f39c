use Rattle.std.proofs.Common.{◌+◌, arith}
use Rattle.sqlite.specs.Held.{state}
use Rattle.sqlite.specs.State.{HasCleanDisk}
use Rattle.table_meaning.specs.Schema.{schema_at}
use Rattle.table_meaning.specs.Making.{rows_at}
use Rattle.table_meaning.proofs.Definitions.{next_left}
use Rattle.table_meaning.proofs.Upgrading.{next_made}
use Rattle.table_upgrades.proofs.steps.upgrade_tables.Goals as goal

pub returns-clause-makes : goal.returns-clause-makes
returns-clause-makes g c clean inside =
    let n = c.args.schema in
    let old = (state g.S.Store c.args.tx.now.conn.now).now in
    let made = state g.S.Store c.define.new.tx.conn.now in
    let filled = state g.S.Store c.fill_tables.new.tx.conn.now in
    let later : HasCleanDisk filled = omega (arith, c.put_schema.ensures.within.survives.clean) in
    let early : HasCleanDisk made = omega (arith, later, c.fill_tables.ensures.within.survives.clean) in
    let within = c.in_ok-define.ensures.inside early inside in
    next_made n c.requires old made.now filled.now (state g.S.Store c.put_schema.new.tx.conn.now).now (λ is. c.in_ok-define.ensures.made early inside (schema_at (n + 1)) (rows_at n old.trees) (next_left n c.requires old is))
    (c.in_ok-fill_tables.ensures.fills later within) (c.in_ok-put_schema.ensures.puts clean (c.in_ok-fill_tables.ensures.inside later within))
