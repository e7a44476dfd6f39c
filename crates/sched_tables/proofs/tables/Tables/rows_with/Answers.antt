use Rattle.std.proofs.Common.{subst}
use Rattle.sqlite.specs.Effect.{Database}
use Rattle.sqlite.specs.Held.{state}
use Rattle.table_meaning.specs.Kept.{calls_in}
use Rattle.sched_tables.specs.Entries.{IsRowOf}
use Rattle.sched_tables.specs.ReadLaws.{was_honest, stays_both}
use Rattle.sched_tables.proofs.tables.Tables.rows_with.Goals as goal

pub returns-clause-rows : goal.returns-clause-rows
returns-clause-rows g c = λ honest kept.
    let old = state g.S.Store c.args.self.now.conn in
    let mid = state g.S.Store c.rows_of_changes.new.desk.conn in
    let end = state g.S.Store c.row_of.new.self.conn in
    let first = c.args.self.now in
    let later = c.rows_of_changes.new.desk in
    let on = c.rows_of_changes.ensures.reads in
    let was = was_honest mid end c.row_of.ensures.reads.0 honest in
    let same = on.0.same was.0 was.1 kept.0.rests in
    let then = stays_both old mid on.0 was first.settings later.settings first.apps later.apps first.cache later.cache first.due_from later.due_from on.1 on.2 (on.3 was kept) (on.4 was kept) kept in
    let row = c.in_ok-row_of.ensures.row honest then in (
      c.in_ok-row_of.field-0,
      subst (λ (db : Database). IsRowOf (calls_in db.trees) c.args.entry.now c.in_ok-row_of.field-0) same.0 row,
      record {
        changed = c.in_ok-rows.rows;
        are = c.in_ok-rows.ensures.rows was kept kept.0.readable;
        all = c.in_ok-push_some.ensures;
        readable = c.in_ok-rows.ensures.readable was kept kept.0.readable;
      },
    )
