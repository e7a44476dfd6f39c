use Rattle.std.proofs.Common.{rules, sym, ap, subst, ◌∙◌}
use Rattle.std.specs.Option.{option_copied}
use Rattle.sched_book.specs.declared.rows.Workunit.{Workunit}
use Rattle.call_working_set.specs.WorkingSets.{IsUnitStateAt}
use Rattle.table_meaning.specs.Worlds.{app_place}
use Rattle.table_meaning.specs.declared.rows.StoredRow.TheVariants as stored
use Rattle.table_changes.proofs.CallStateRows.{unit_changed, unit_stays, unit_unread}
use Rattle.table_changes.proofs.units.changed_unit.Goals as goal

pub returns-clause-row : goal.returns-clause-row
returns-clause-row g c = λ honest kept after apps at.
    let w = g.D.Units.world c.args.desk.now in
    let k = c.in-Some.unit_state.now in
    unit_changed w after c.args.unit c.in_ok-app.app.place k c.present_status-status.result c.update.result apps
    (subst (λ o. IsUnitStateAt w after c.args.unit (option_copied o)) c.in-Some.is at)
    (c.in_ok-app.ensures.place honest kept ∙ ap (app_place w) c.as_str.ensures ∙ ap (λ (u : Workunit). app_place w u.app) c.unit.ensures)
    c.present_status-status.ensures (λ u b rule of at told. c.update.ensures ∙ ap stored.Unit (c.in_ok-row.ensures u b rule
    (of ∙ ap (λ (v : Workunit). record v { class_rule = rule }) (sym c.unit-2.ensures))
    (at ∙ ap (λ (v : Workunit). app_place u v.app) (sym c.unit-2.ensures)) told))

pub returns-in_default-clause-row : goal.returns-in_default-clause-row
returns-in_default-clause-row g c = λ honest kept after apps at.
    let w = g.D.Units.world c.args.desk.now in
    unit_unread w after c.args.unit apps (subst (λ o. IsUnitStateAt w after c.args.unit (option_copied o)) c.in_default.is at)

pub returns-then-eq-clause-row : goal.returns-then-eq-clause-row
returns-then-eq-clause-row g c = λ honest kept after apps at.
    let w = g.D.Units.world c.args.desk.now in
    unit_stays w after c.args.unit c.in-Some.unit_state.now c.present_status-status.result c.status_before.result apps
    (subst (λ o. IsUnitStateAt w after c.args.unit (option_copied o)) c.in-Some.is at)
    c.present_status-status.ensures c.status_before.ensures (search rules)
