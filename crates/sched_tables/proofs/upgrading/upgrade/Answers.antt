use Rattle.std.proofs.lemmas.Result.{on_ok_weaker, on_err_weaker}
use Rattle.sqlite.specs.Held.{state}
use Rattle.table_meaning.proofs.UpgradedWorlds.{refused_world, upgrades_world}
use Rattle.sched_tables.proofs.Upgraded.{survives_world}
use Rattle.sched_tables.proofs.upgrading.upgrade.Goals as goal

pub returns-clause-upgrades : goal.returns-clause-upgrades
returns-clause-upgrades g c = λ clean. on_ok_weaker c.upgrade.result (upgrades_world _ _) (c.upgrade.ensures.upgrades clean)

pub returns-clause-neither : goal.returns-clause-neither
returns-clause-neither g c = λ clean is_open. on_err_weaker c.upgrade.result (refused_world (state g.S.Store c.args.conn.now) (state g.S.Store c.upgrade.new.conn)) (c.upgrade.ensures.neither clean is_open)

pub returns-clause-crash : goal.returns-clause-crash
returns-clause-crash g c = survives_world (state g.S.Store c.args.conn.now) (state g.S.Store c.upgrade.new.conn) c.upgrade.ensures.crash
