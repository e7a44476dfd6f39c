use Rattle.sched_tables.proofs.Told.{answer_later}
use Rattle.sched_tables.proofs.tables.Tables.count_held.Goals as goal

pub returns-in-None-clause-answer : goal.returns-in-None-clause-answer
returns-in-None-clause-answer g c = λ honest kept.
    answer_later g.S.Store c.args.self.now c.counted_host.new.self c.held_of_none_given.new.conn _ c.counted_host.ensures.reads c.held_of_none_given.ensures.reads c.held_of_none_given.ensures.answer honest kept
