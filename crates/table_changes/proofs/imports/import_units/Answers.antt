use Rattle.std.proofs.Common.{rules, ◌≡◌, ◌<◌, [], ◌∷◌, length, take, get_or, subst}
use Rattle.std.proofs.lemmas.List.{take_all}
use Rattle.sched_book.specs.Imports.{with_rows}
use Rattle.sched_book.specs.declared.rows.Rows.TheVariants as kinds
use Rattle.sched_book.specs.declared.world.World.{World}
use Rattle.table_changes.specs.Imported.{AreImported}
use Rattle.table_changes.proofs.ImportRows.{unit_next, no_unit, counted_now}
use Rattle.table_changes.proofs.imports.import_units.Goals as goal

pub loop-unit-init : goal.loop-unit-init
loop-unit-init g c = record {
  reads = g.met.D.Units.reads_none _;
  told = λ honest kept v so_far. no_unit _ v c.args.count c.args.rows.now so_far;
}

pub loop-unit-preserved : goal.loop-unit-preserved
loop-unit-preserved g c =
    let d = g.met.D.Units in
    let inv = c.loop-unit.invariant in
    let xs = c.args.units.now in
    let i = c.loop-unit.unit-index in
    let within : i < length xs = search rules in
    let item : get_or xs i c.unit-item.result ≡ c.unit-item.result = search rules in
    record {
      reads = d.reads_on _ _ _ inv.reads c.push_unit.ensures.reads;
      told = λ honest kept v so_far.
          let before = d.stays_honest _ _ c.push_unit.ensures.reads honest in
          let well = d.stays_kept _ _ inv.reads before kept in
          let same = d.stays_same _ _ inv.reads before kept in
          unit_next (g.D.Units.world c.args.desk.now) v i c.loop-unit.counted c.in_ok-counted.counted c.loop-unit.rows c.push_unit.new.rows xs c.unit-item.result within item
          (subst (λ (w : World). AreImported w (with_rows v (kinds.Workunits (take i xs))) c.loop-unit.counted c.loop-unit.rows
          → AreImported w (with_rows (with_rows v (kinds.Workunits (take i xs))) (kinds.Workunits (c.unit-item.result ∷ []))) c.in_ok-counted.counted c.push_unit.new.rows) same
          (c.in_ok-counted.ensures.rows honest well (with_rows v (kinds.Workunits (take i xs)))))
          (inv.told before kept v so_far);
    }

pub returns-clause-rows : goal.returns-clause-rows
returns-clause-rows g c = λ honest kept v so_far.
    counted_now (g.D.Units.world c.args.desk.now) _ c.loop-unit.counted _
    (subst (λ xs. AreImported (g.D.Units.world c.args.desk.now) (with_rows v (kinds.Workunits xs)) c.loop-unit.counted c.loop-unit.rows)
    (take_all c.loop-unit.unit-index c.args.units.now c.loop-unit-test.false) (c.loop-unit.invariant.told honest kept v so_far))
