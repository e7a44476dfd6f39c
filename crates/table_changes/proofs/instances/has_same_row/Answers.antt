use Rattle.std.proofs.Common.{sym, ◌∙◌}
use Rattle.table_changes.proofs.SameInstances.{instance_same}
use Rattle.table_changes.proofs.instances.has_same_row.Goals as goal

pub returns-then-is_some-clause-instance : goal.returns-then-is_some-clause-instance
returns-then-is_some-clause-instance c = λ given. (instance_same c.args.before.now c.args.present.now).0 (sym c.eq.ensures ∙ c.if-eq.true)

pub returns-else-is_some-clause-instance : goal.returns-else-is_some-clause-instance
returns-else-is_some-clause-instance c = λ given. (instance_same c.args.before.now c.args.present.now).0 (sym c.eq.ensures ∙ c.if-eq.true)
