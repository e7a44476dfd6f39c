use Rattle.std.proofs.Common.{take}
use Rattle.sched_book.specs.Delta.{edited}
use Rattle.call_working_set.specs.WorkingSets.{IsCallStateOf}
use Rattle.table_changes.specs.Added.{is_unit_among, AreAdded}
use Rattle.table_changes.proofs.units.push_units.Given as goal

-- the rows of the workunits so far are added
abbrev pub invariant-loop-unit : goal.invariant-loop-unit
invariant-loop-unit g l = record {
  reads : g.D.Units.reads l.fn.desk l.desk;
  told : g.D.Units.honest l.desk → g.D.Units.well_kept l.fn.desk → IsCallStateOf (g.D.Units.world l.fn.desk) l.call_state
      → AreAdded (is_unit_among (take l.unit-index l.units)) (g.D.Units.world l.fn.desk) (edited (g.D.Units.world l.fn.desk) l.call_state.edits) l.fn.rows l.rows;
}
