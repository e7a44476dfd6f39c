use Rattle.sched_tables.proofs.Told.{told}
use Rattle.sched_tables.proofs.desk.TablesDesk.owned_by.Goals as goal

pub returns-clause-answer : goal.returns-clause-answer
returns-clause-answer g c = λ honest kept. told g.S.Store c.args.self.now c.owned_by.new.conn _ c.owned_by.ensures.answer honest kept
