use Rattle.std.proofs.Common.{[], ◌∷◌, refl, sym, ap, ◌∙◌}
use Rattle.sched_book.specs.Imports.{has_app, new_unit, with_rows}
use Rattle.sched_book.specs.Places.{agreement_by}
use Rattle.sched_book.specs.declared.rows.Rows.TheVariants as kinds
use Rattle.table_meaning.specs.Worlds.{app_place}
use Rattle.table_meaning.specs.declared.rows.StoredRow.TheVariants as stored
use Rattle.table_changes.proofs.ImportRows.{first_status, new_book, unit_added}
use Rattle.table_changes.proofs.imports.push_unit.Goals as goal

pub returns-clause-rows : goal.returns-clause-rows
returns-clause-rows g c = λ honest kept v so_far.
    let w = g.D.Units.world c.args.desk.now in
    let u = c.args.unit.now in
    let n = c.in_ok-workunits.workunits in
    let app = c.in_ok-app.app.place in
    let s = c.in_ok-status.status in
    let row = c.insert.result in
    let place = c.in_ok-app.ensures.place honest kept ∙ ap (app_place w) c.as_str.ensures in
    let stands = ap (has_app w.apps) (sym c.as_str.ensures) ∙ c.in_ok-app.ensures.stands honest kept in
    let agrees = c.in_ok-app.ensures.agreement honest kept ∙ ap (agreement_by w.apps) c.as_str.ensures in
    let first = first_status w v so_far.apps.0 c.in_ok-app.app.agreement s u so_far.apps.1 stands agrees c.in_ok-status.ensures in
    let mark = c.insert-2.result in
    let book = new_book w v c.args.count c.args.rows.now c.push.new.self c.push-2.new.self c.push_fresh.new.rows n app s row mark u so_far c.in_ok-workunits.ensures place stands in
    let fresh = c.in_ok-push_fresh.ensures v (with_rows v (kinds.Workunits (u ∷ []))) (new_unit u) book refl first in
    unit_added w v c.args.count c.args.rows.now c.push.new.self c.push-2.new.self c.push_fresh.new.rows n app s row mark u so_far c.in_ok-workunits.ensures place stands
    (λ x b rule of at told. c.insert.ensures ∙ ap stored.Unit (c.in_ok-row.ensures x b rule of at told))
    (λ b of. c.insert-2.ensures ∙ ap stored.UnitMark (c.in_ok-mark.ensures b of)) first c.in_ok-push.ensures.ok c.in_ok-push-2.ensures.ok fresh
