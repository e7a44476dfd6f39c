use Rattle.std.proofs.Common.{rules, ◌+◌, ◌<◌, [], ◌∷◌, length, take, get_or, refl}
use Rattle.sched_book.specs.Delta.{edited}
use Rattle.table_changes.specs.Added.{is_instance_among}
use Rattle.table_changes.proofs.Adding.{none_added, added_then}
use Rattle.table_changes.proofs.InTurn.{no_instance, instances_then}
use Rattle.table_changes.proofs.CallStateRows.{apps_stay, unit_state_at}
use Rattle.table_changes.proofs.instances.push_instances.Goals as goal

pub loop-unit-init : goal.loop-unit-init
loop-unit-init c = λ w call_state. none_added (is_instance_among []) w _ c.args.rows.now (λ k is. no_instance k is _)

pub loop-unit-preserved : goal.loop-unit-preserved
loop-unit-preserved c = λ w call_state.
    let units = c.args.units.now in
    let p = c.args.call_state.now in
    let i = c.loop-unit.unit-index in
    let unit = get_or units i 0 in
    let within : i < length units = search rules in
    added_then (is_instance_among (take i units)) (is_instance_among (unit ∷ [])) (is_instance_among (take (i + 1) units)) w (edited w p.edits)
    c.args.rows.now c.loop-unit.rows c.push_instances_of.new.rows (instances_then units i unit within refl) (c.loop-unit.invariant w call_state)
    (c.in_ok-push_instances_of.ensures w (edited w p.edits) (apps_stay w p call_state) (unit_state_at w p unit _ call_state c.unit_state.ensures))
