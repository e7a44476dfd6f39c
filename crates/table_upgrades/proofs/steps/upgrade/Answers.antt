use Rattle.std.proofs.Common.{◌≡◌, Some, IsTrue, rules}
use Rattle.sqlite.specs.Held.{state}
use Rattle.table_upgrades.proofs.Upgraded.{upgrade_stopped}
use Rattle.table_upgrades.proofs.steps.upgrade.Goals as goal

pub returns-in_err-upgrade_from-clause-crash : goal.returns-in_err-upgrade_from-clause-crash
returns-in_err-upgrade_from-clause-crash g c =
    let some : c.in_ok-schema.field-0 ≡ Some c.in-Some.schema = search rules in
    let found = rw some at c.in_ok-schema.ensures.found in
    let settled : IsTrue c.is_autocommit.result = search rules in
    upgrade_stopped c.in-Some.schema found.0 (state g.S.Store c.args.conn.now) (state g.S.Store c.says_schema.new.conn) (state g.S.Store c.upgrade_from.new.conn) found.1 c.says_schema.ensures.reads
    (c.is_autocommit.ensures.settled settled) c.upgrade_from.ensures.crash
