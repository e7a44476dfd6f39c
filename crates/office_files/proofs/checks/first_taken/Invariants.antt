use Rattle.std.proofs.Common.{◌≡◌, ◌+◌, ◌++◌, drop, take}
use Rattle.std.specs.List.{list_any}
use Rattle.sched_book.specs.Imports.{first_known}
use Rattle.sched_book.specs.Keys.{Key, same_key, has_key}
use Rattle.office_files.proofs.checks.first_taken.Given as goal

-- no name so far was taken, so the rest decides; what was seen are the keys so far
abbrev pub invariant-loop-index : goal.invariant-loop-index
invariant-loop-index g l = record {
  reads : g.D.Units.reads l.fn.desk l.desk;
  seen : (key : Key) → has_key l.seen key ≡ list_any (λ x. same_key key (g.R.Keyed.key_of x)) (take l.index l.rows);
  left : g.D.Units.honest l.desk → g.D.Units.well_kept l.fn.desk
      → first_known g.R.NamedRow.same 1 (g.R.NamedRow.shelf (g.D.Units.world l.fn.desk)) l.rows
      ≡ first_known g.R.NamedRow.same (l.index + 1) (g.R.NamedRow.shelf (g.D.Units.world l.fn.desk) ++ take l.index l.rows) (drop l.index l.rows);
}
