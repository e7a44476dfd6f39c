use Rattle.std.proofs.Common.{◌∙◌, rules}
use Rattle.sched_tables.proofs.Told.{told}
use Rattle.sched_tables.proofs.tables.Tables.read_version.Goals as goal

pub returns-clause-answer : goal.returns-clause-answer
returns-clause-answer g c = λ honest kept. told g.S.Store c.args.self.now c.version_for.new.conn _ c.in_ok-found.ensures.answer honest kept (c.as_slice-apps.ensures ∙ kept.1.apps_are)

pub returns-clause-reads : goal.returns-clause-reads
returns-clause-reads g c = (search rules, search rules, search rules, λ honest kept. c.remember_version.ensures _ _ c.args.host.now kept.1.rows_are c.as_slice.ensures (returns-clause-answer g c honest kept), λ honest kept. kept.1.due_from_is)
