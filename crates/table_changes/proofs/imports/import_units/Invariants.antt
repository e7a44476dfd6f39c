use Rattle.std.proofs.Common.{take}
use Rattle.sched_book.specs.Imports.{with_rows}
use Rattle.sched_book.specs.declared.rows.Rows.TheVariants as kinds
use Rattle.sched_book.specs.declared.world.World.{World}
use Rattle.table_changes.specs.Imported.{AreImported}
use Rattle.table_changes.proofs.imports.import_units.Given as goal

-- the rows so far are imported
abbrev pub invariant-loop-unit : goal.invariant-loop-unit
invariant-loop-unit g l = record {
  reads : g.D.Units.reads l.fn.desk l.desk;
  told : g.D.Units.honest l.desk → g.D.Units.well_kept l.fn.desk → (v : World) → AreImported (g.D.Units.world l.fn.desk) v l.initial.counted l.fn.rows
      → AreImported (g.D.Units.world l.fn.desk) (with_rows v (kinds.Workunits (take l.unit-index l.units))) l.counted l.rows;
}
