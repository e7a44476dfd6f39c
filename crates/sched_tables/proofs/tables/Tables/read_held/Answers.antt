use Rattle.std.proofs.Common.{arith}
use Rattle.sqlite.specs.Held.{state}
use Rattle.table_meaning.proofs.StepLemmas.{reads_on}
use Rattle.sched_tables.specs.ReadLaws.{was_honest}
use Rattle.sched_tables.specs.Views.{state_of}
use Rattle.sched_tables.proofs.Told.{answer_later}
use Rattle.sched_tables.proofs.tables.Tables.read_held.Goals as goal

pub returns-clause-answer : goal.returns-clause-answer
returns-clause-answer g c = λ honest kept.
    let before = c.args.self.now in
    let mid = c.count_held.new.self in
    let counted = c.in_ok-count.ensures.answer (was_honest (state_of g.S.Store mid) _ c.places_held.ensures.reads honest) kept in
    answer_later g.S.Store before mid c.places_held.new.conn _ c.count_held.ensures.reads c.places_held.ensures.reads c.in_ok-found.ensures.answer honest kept (omega (arith, counted))

pub returns-clause-reads : goal.returns-clause-reads
returns-clause-reads g c =
    let before = state_of g.S.Store c.args.self.now in
    let mid = state_of g.S.Store c.count_held.new.self in
    let after = state g.S.Store c.places_held.new.conn in
    let on = c.count_held.ensures.reads in
    let late = c.places_held.ensures.reads in (
      reads_on before mid after on.0 late,
      on.1,
      on.2,
      λ honest kept. c.remember_held.ensures _ _ (on.3 (was_honest mid after late honest) kept) (returns-clause-answer g c honest kept),
      λ honest kept. on.4 (was_honest mid after late honest) kept,
    )
