use Rattle.std.proofs.Common.{sym, subst, ◌∙◌, rules}
use Rattle.sched_tables.specs.DueFrom.{NothingIsDueBefore}
use Rattle.sched_tables.specs.Views.{world_of}
use Rattle.sched_tables.proofs.DueFromStays.{raised_is}
use Rattle.sched_tables.proofs.Told.{told}
use Rattle.sched_tables.proofs.tables.Tables.read_due.Goals as goal

pub returns-clause-answer : goal.returns-clause-answer
returns-clause-answer g c = λ honest kept. told g.S.Store c.args.self.now c.due_before.new.conn _ c.in_ok-due.ensures.answer honest kept kept.1.due_from_is

pub returns-clause-reads : goal.returns-clause-reads
returns-clause-reads g c = (
  search rules,
  search rules,
  search rules,
  λ honest kept. kept.1.rows_are,
  λ honest kept.
      let w = world_of g.S.Store c.args.self.now in
      subst (NothingIsDueBefore w) (sym c.raised-self.ensures) (raised_is w c.args.self.now.due_from c.args.now c.as_slice.result.now (c.as_slice.ensures ∙ returns-clause-answer g c honest kept) kept.1.due_from_is),
)
