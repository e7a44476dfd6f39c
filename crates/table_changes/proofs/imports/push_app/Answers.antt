use Rattle.std.proofs.Common.{ap, ◌∙◌}
use Rattle.table_meaning.specs.declared.rows.StoredRow.TheVariants as stored
use Rattle.table_changes.proofs.ImportRows.{app_added}
use Rattle.table_changes.proofs.imports.push_app.Goals as goal

pub returns : goal.returns
returns c = λ w v so_far.
    app_added w v c.args.count c.args.rows.now c.push.new.self c.in_ok-apps.apps c.insert.result so_far c.in_ok-push.ensures.ok
    c.args.app.now c.in_ok-apps.ensures (c.insert.ensures ∙ ap stored.App c.in_ok-row.ensures)
