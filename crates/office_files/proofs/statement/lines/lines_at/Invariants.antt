use Rattle.std.proofs.Common.{◌≡◌, ◌++◌, drop}
use Rattle.office_files.specs.Statements.{lines_at}
use Rattle.office_files.proofs.statement.lines.lines_at.Given as goal

-- the lines so far, and those of the other places, are all
abbrev pub invariant-loop-place : goal.invariant-loop-place
invariant-loop-place g l = record {
  reads : g.D.Units.reads l.fn.desk l.desk;
  told : g.D.Units.honest l.desk → g.D.Units.well_kept l.fn.desk
      → lines_at (g.D.Units.world l.fn.desk) l.places ≡ l.lines ++ lines_at (g.D.Units.world l.fn.desk) (drop l.place-index l.places);
}
