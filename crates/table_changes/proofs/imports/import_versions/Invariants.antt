use Rattle.std.proofs.Common.{take}
use Rattle.sched_book.specs.Imports.{with_rows}
use Rattle.sched_book.specs.declared.rows.Rows.TheVariants as kinds
use Rattle.sched_book.specs.declared.world.World.{World}
use Rattle.table_changes.specs.Imported.{AreImported}
use Rattle.table_changes.proofs.imports.import_versions.Given as goal

-- the rows so far are imported
abbrev pub invariant-loop-version : goal.invariant-loop-version
invariant-loop-version g l = record {
  reads : g.D.Units.reads l.fn.desk l.desk;
  told : g.D.Units.honest l.desk → g.D.Units.well_kept l.fn.desk → (v : World) → AreImported (g.D.Units.world l.fn.desk) v l.initial.counted l.fn.rows
      → AreImported (g.D.Units.world l.fn.desk) (with_rows v (kinds.Versions (take l.version-index l.versions))) l.counted l.rows;
}
