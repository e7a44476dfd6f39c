use Rattle.std.proofs.Common.{◌∙◌}
use Rattle.sched_tables.specs.Views.{world_of}
use Rattle.sched_tables.proofs.desk.TablesDesk.app_by_name.Goals as goal

pub returns-clause-answer : goal.returns-clause-answer
returns-clause-answer g c = λ honest kept. c.app_by_name.ensures (world_of g.S.Store c.args.self.now) (c.as_slice.ensures ∙ kept.1.apps_are)
