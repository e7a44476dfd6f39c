use Rattle.std.proofs.Common.{rules, ◌+◌, ◌<◌, [], length, take, get_or, subst}
use Rattle.std.proofs.lemmas.List.{take_all}
use Rattle.sched_book.specs.Delta.{edited}
use Rattle.table_changes.specs.Added.{is_unit_among, AreAdded}
use Rattle.table_changes.proofs.Adding.{none_added, one_added}
use Rattle.table_changes.proofs.InTurn.{no_unit, units_next}
use Rattle.table_changes.proofs.CallStateRows.{unit_told}
use Rattle.table_changes.proofs.units.push_units.Goals as goal

pub loop-unit-init : goal.loop-unit-init
loop-unit-init g c = record {
  reads = g.met.D.Units.reads_none _;
  told = λ honest kept call_state. none_added (is_unit_among []) _ _ c.args.rows.now (λ k is. no_unit k is _);
}

pub loop-unit-preserved : goal.loop-unit-preserved
loop-unit-preserved g c =
    let d = g.met.D.Units in
    let inv = c.loop-unit.invariant in
    let units = c.args.units.now in
    let i = c.loop-unit.unit-index in
    let unit = get_or units i 0 in
    let within : i < length units = search rules in
    record {
      reads = d.reads_on _ _ _ inv.reads c.changed_unit.ensures.reads;
      told = λ honest kept call_state.
          let before = d.stays_honest _ _ c.changed_unit.ensures.reads honest in
          let well = d.stays_kept _ _ inv.reads before kept in
          let same = d.stays_same _ _ inv.reads before kept in
          one_added (is_unit_among (take i units)) (is_unit_among (take (i + 1) units)) _ _ _ c.args.rows.now c.loop-unit.rows c.push_some.new.self c.in_ok-changed_unit.field-0
          (units_next units i unit within (search rules))
          (unit_told _ _ c.args.call_state.now unit _ c.in_ok-changed_unit.field-0 same c.unit_state.ensures call_state (c.in_ok-changed_unit.ensures.row honest well))
          c.in_ok-push_some.ensures (inv.told before kept call_state);
    }

pub returns-clause-rows : goal.returns-clause-rows
returns-clause-rows g c = λ honest kept call_state.
    let units = c.args.units.now in
    subst (λ ns. AreAdded (is_unit_among ns) (g.D.Units.world c.args.desk.now) (edited (g.D.Units.world c.args.desk.now) c.args.call_state.now.edits) c.args.rows.now c.loop-unit.rows)
    (take_all c.loop-unit.unit-index units c.loop-unit-test.false) (c.loop-unit.invariant.told honest kept call_state)
