use Rattle.table_changes.proofs.ImportRows.{imported_all}
use Rattle.table_changes.proofs.imports.rows_of_import.Goals as goal

pub returns-clause-rows : goal.returns-clause-rows
returns-clause-rows g c = λ honest kept readable.
    let d = g.met.D.Units in
    let honest_1 = d.stays_honest _ _ c.import_rows.ensures.reads honest in
    let kept_1 = d.stays_kept _ _ c.counts.ensures.reads honest_1 kept in
    (imported_all (g.D.Units.world c.args.desk.now) _ c.in_ok-count.count c.new-rows.result c.import_rows.new.rows c.args.new.now
    (d.stays_same _ _ c.counts.ensures.reads honest_1 kept) readable (c.in_ok-count.ensures.answer honest_1 kept) c.new-rows.ensures
    (c.in_ok-import_rows.ensures.rows honest kept_1)).changes

pub returns-clause-readable : goal.returns-clause-readable
returns-clause-readable g c = λ honest kept readable.
    let d = g.met.D.Units in
    let honest_1 = d.stays_honest _ _ c.import_rows.ensures.reads honest in
    let kept_1 = d.stays_kept _ _ c.counts.ensures.reads honest_1 kept in
    (imported_all (g.D.Units.world c.args.desk.now) _ c.in_ok-count.count c.new-rows.result c.import_rows.new.rows c.args.new.now
    (d.stays_same _ _ c.counts.ensures.reads honest_1 kept) readable (c.in_ok-count.ensures.answer honest_1 kept) c.new-rows.ensures
    (c.in_ok-import_rows.ensures.rows honest kept_1)).readable
