use Rattle.std.proofs.Common.{subst}
use Rattle.std.proofs.lemmas.Result.{on_ok_weaker}
use Rattle.sched_book.specs.Delta.{edited}
use Rattle.table_changes.specs.Added.{is_unit_among, is_mark_among, is_instance_among, AreAdded}
use Rattle.table_changes.proofs.CallStateRows.{all_parts}
use Rattle.table_changes.proofs.calls.push_rows.Goals as goal

pub returns-clause-rows : goal.returns-clause-rows
returns-clause-rows g c = λ honest kept call_state touched none.
    let d = g.met.D.Units in
    let w = g.D.Units.world c.args.desk.now in
    let p = c.args.call_state.now in
    let t = c.args.touched.now in
    let before = d.stays_honest _ _ c.push_hosts.ensures.reads honest in
    let well = d.stays_kept _ _ c.push_units.ensures.reads before kept in
    let same = d.stays_same _ _ c.push_units.ensures.reads before kept in
    on_ok_weaker c.push_instances.result
    (λ instances.
    all_parts w (g.D.Units.world c.push_units.new.desk) p t c.args.rows.now c.push_units.new.rows c.push_marks.new.rows c.push_hosts.new.rows c.push_instances.new.rows same call_state touched none
    (subst (λ ns. AreAdded (is_unit_among ns) w (edited w p.edits) c.args.rows.now c.push_units.new.rows) c.as_slice.ensures (c.in_ok-push_units.ensures.rows before kept call_state))
    (subst (λ ns. AreAdded (is_mark_among ns) w (edited w p.edits) c.push_units.new.rows c.push_marks.new.rows) c.as_slice-2.ensures (c.in_ok-push_marks.ensures w call_state))
    (c.in_ok-push_hosts.ensures.rows honest well)
    (subst (λ ns. AreAdded (is_instance_among ns) w (edited w p.edits) c.push_hosts.new.rows c.push_instances.new.rows) c.as_slice-3.ensures instances))
    (c.push_instances.ensures w call_state)
