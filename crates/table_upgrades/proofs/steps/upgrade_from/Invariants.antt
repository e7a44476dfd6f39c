use Rattle.sqlite.specs.Held.{state}
use Rattle.table_upgrades.proofs.Upgraded.{HasTakenSteps}
use Rattle.table_upgrades.proofs.steps.upgrade_from.Given as goal

abbrev pub invariant-loop-next : goal.invariant-loop-next
invariant-loop-next g l = HasTakenSteps l.schema l.next (state g.S.Store l.fn.conn) (state g.S.Store l.conn)
