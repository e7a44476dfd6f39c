use Rattle.std.proofs.Common.{rules}
use Rattle.sched_tables.proofs.Told.{told}
use Rattle.sched_tables.proofs.tables.Tables.read_counts.Goals as goal

pub returns-clause-answer : goal.returns-clause-answer
returns-clause-answer g c = λ honest kept. told g.S.Store c.args.self.now c.counts.new.conn _ c.in_ok-found.ensures.answer honest kept

pub returns-clause-reads : goal.returns-clause-reads
returns-clause-reads g c = (search rules, search rules, search rules, λ honest kept. c.remember_counts.ensures _ _ kept.1.rows_are (returns-clause-answer g c honest kept), λ honest kept. kept.1.due_from_is)
