use Rattle.sched_tables.proofs.Told.{told}
use Rattle.sched_tables.proofs.desk.TablesDesk.status_of.Goals as goal

pub returns-clause-answer : goal.returns-clause-answer
returns-clause-answer g c = λ honest kept. told g.S.Store c.args.self.now c.status_of.new.conn _ c.status_of.ensures.answer honest kept
