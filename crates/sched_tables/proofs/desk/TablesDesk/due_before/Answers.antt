use Rattle.std.proofs.Common.{◌≡◌, subst}
use Rattle.std.specs.Prelude.{IfOk}
use Rattle.sched_book.specs.Places.{overdue}
use Rattle.sched_tables.specs.ReadLaws.{was_honest}
use Rattle.sched_tables.specs.Views.{state_of, world_of}
use Rattle.sched_tables.proofs.Told.{kept_on, same_on, read_on}
use Rattle.sched_tables.proofs.desk.TablesDesk.due_before.Goals as goal

pub returns-clause-reads : goal.returns-clause-reads
returns-clause-reads g c = read_on g.S.Store c.args.self.now c.raise_due_from.new.self c.read_due.new.self c.raise_due_from.ensures.reads c.read_due.ensures.reads

pub returns-clause-answer : goal.returns-clause-answer
returns-clause-answer g c = λ honest kept.
    let before = c.args.self.now in
    let mid = c.raise_due_from.new.self in
    let then = was_honest (state_of g.S.Store mid) _ c.read_due.ensures.reads.0 honest in
    subst (λ w. IfOk c.read_due.result (λ r. r ≡ overdue w c.args.now)) (same_on g.S.Store before mid c.raise_due_from.ensures.reads then kept)
    (subst (λ now. IfOk c.read_due.result (λ r. r ≡ overdue (world_of g.S.Store mid) now)) c.seconds.ensures.value (c.read_due.ensures.answer honest (kept_on g.S.Store before mid c.raise_due_from.ensures.reads then kept)))
