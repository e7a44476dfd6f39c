use Rattle.std.proofs.Common.{rules, ◌+◌, ◌<◌, [], length, take, get_or, refl}
use Rattle.sched_book.specs.Delta.{edited}
use Rattle.table_changes.specs.Added.{is_mark_among}
use Rattle.table_changes.proofs.Adding.{none_added, one_added}
use Rattle.table_changes.proofs.InTurn.{no_mark, marks_next}
use Rattle.table_changes.proofs.CallStateRows.{unit_state_at}
use Rattle.table_changes.proofs.marks.push_marks.Goals as goal

pub loop-unit-init : goal.loop-unit-init
loop-unit-init c = λ w call_state. none_added (is_mark_among []) w _ c.args.rows.now (λ k is. no_mark k is _)

pub loop-unit-preserved : goal.loop-unit-preserved
loop-unit-preserved c = λ w call_state.
    let units = c.args.units.now in
    let p = c.args.call_state.now in
    let i = c.loop-unit.unit-index in
    let unit = get_or units i 0 in
    let within : i < length units = search rules in
    one_added (is_mark_among (take i units)) (is_mark_among (take (i + 1) units)) _ w (edited w p.edits) c.args.rows.now c.loop-unit.rows c.push_some.new.self
    c.in_ok-changed_mark.field-0 (marks_next units i unit within refl)
    (c.in_ok-changed_mark.ensures w (edited w p.edits) (unit_state_at w p unit _ call_state c.unit_state.ensures))
    c.in_ok-push_some.ensures (c.loop-unit.invariant w call_state)
