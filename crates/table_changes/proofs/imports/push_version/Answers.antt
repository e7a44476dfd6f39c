use Rattle.std.proofs.Common.{sym, ap, ◌∙◌}
use Rattle.sched_book.specs.Imports.{has_app}
use Rattle.table_meaning.specs.Worlds.{app_place}
use Rattle.table_meaning.specs.declared.rows.StoredRow.TheVariants as stored
use Rattle.table_changes.proofs.ImportRows.{version_added}
use Rattle.table_changes.proofs.imports.push_version.Goals as goal

pub returns-clause-rows : goal.returns-clause-rows
returns-clause-rows g c = λ honest kept v so_far.
    let w = g.D.Units.world c.args.desk.now in
    version_added w v c.args.count c.args.rows.now c.push.new.self c.push-2.new.self c.in_ok-versions.versions c.in_ok-app.app.place c.insert.result c.insert-2.result
    so_far c.in_ok-push.ensures.ok c.in_ok-push-2.ensures.ok c.args.version.now c.in_ok-versions.ensures
    (c.in_ok-app.ensures.place honest kept ∙ ap (app_place w) c.as_str.ensures)
    (ap (has_app w.apps) (sym c.as_str.ensures) ∙ c.in_ok-app.ensures.stands honest kept)
    (λ x place. c.insert.ensures ∙ ap stored.Version (c.in_ok-row.ensures x place)) (c.insert-2.ensures ∙ ap stored.VersionClass c.in_ok-class.ensures)
