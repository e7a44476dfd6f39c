use Rattle.std.proofs.Common.{◌≡◌, ◌+◌, drop}
use Rattle.std.specs.Prelude.{not}
use Rattle.std.specs.List.{position_from}
use Rattle.sched_book.specs.Imports.{has_app}
use Rattle.sched_book.specs.Places.{place_where}
use Rattle.office_files.proofs.checks.first_without_app.Given as goal

-- the application of each row so far exists, so the rest decides
abbrev pub invariant-loop-index : goal.invariant-loop-index
invariant-loop-index g l = record {
  reads : g.D.Units.reads l.fn.desk l.desk;
  left : g.D.Units.honest l.desk → g.D.Units.well_kept l.fn.desk
      → place_where (λ x. not (has_app (g.D.Units.world l.fn.desk).apps (g.R.AppRow.app_of x))) l.rows
      ≡ position_from (λ x. not (has_app (g.D.Units.world l.fn.desk).apps (g.R.AppRow.app_of x))) (l.index + 1) (drop l.index l.rows);
}
