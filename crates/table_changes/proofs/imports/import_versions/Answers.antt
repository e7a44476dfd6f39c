use Rattle.std.proofs.Common.{rules, ◌≡◌, ◌<◌, [], ◌∷◌, length, take, get_or, subst}
use Rattle.std.proofs.lemmas.List.{take_all}
use Rattle.sched_book.specs.Imports.{with_rows}
use Rattle.sched_book.specs.declared.rows.Rows.TheVariants as kinds
use Rattle.sched_book.specs.declared.world.World.{World}
use Rattle.table_changes.specs.Imported.{AreImported}
use Rattle.table_changes.proofs.ImportRows.{version_next, no_version, counted_now}
use Rattle.table_changes.proofs.imports.import_versions.Goals as goal

pub loop-version-init : goal.loop-version-init
loop-version-init g c = record {
  reads = g.met.D.Units.reads_none _;
  told = λ honest kept v so_far. no_version _ v c.args.count c.args.rows.now so_far;
}

pub loop-version-preserved : goal.loop-version-preserved
loop-version-preserved g c =
    let d = g.met.D.Units in
    let inv = c.loop-version.invariant in
    let xs = c.args.versions.now in
    let i = c.loop-version.version-index in
    let within : i < length xs = search rules in
    let item : get_or xs i c.version-item.result ≡ c.version-item.result = search rules in
    record {
      reads = d.reads_on _ _ _ inv.reads c.push_version.ensures.reads;
      told = λ honest kept v so_far.
          let before = d.stays_honest _ _ c.push_version.ensures.reads honest in
          let well = d.stays_kept _ _ inv.reads before kept in
          let same = d.stays_same _ _ inv.reads before kept in
          version_next (g.D.Units.world c.args.desk.now) v i c.loop-version.counted c.in_ok-counted.counted c.loop-version.rows c.push_version.new.rows xs c.version-item.result within item
          (subst (λ (w : World). AreImported w (with_rows v (kinds.Versions (take i xs))) c.loop-version.counted c.loop-version.rows
          → AreImported w (with_rows (with_rows v (kinds.Versions (take i xs))) (kinds.Versions (c.version-item.result ∷ []))) c.in_ok-counted.counted c.push_version.new.rows) same
          (c.in_ok-counted.ensures.rows honest well (with_rows v (kinds.Versions (take i xs)))))
          (inv.told before kept v so_far);
    }

pub returns-clause-rows : goal.returns-clause-rows
returns-clause-rows g c = λ honest kept v so_far.
    counted_now (g.D.Units.world c.args.desk.now) _ c.loop-version.counted _
    (subst (λ xs. AreImported (g.D.Units.world c.args.desk.now) (with_rows v (kinds.Versions xs)) c.loop-version.counted c.loop-version.rows)
    (take_all c.loop-version.version-index c.args.versions.now c.loop-version-test.false) (c.loop-version.invariant.told honest kept v so_far))
