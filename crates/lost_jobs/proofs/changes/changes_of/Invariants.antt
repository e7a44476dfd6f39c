use Rattle.std.proofs.Common.{◌≡◌, ◌++◌, drop}
use Rattle.std.specs.Prelude.{All, filter_map}
use Rattle.call_working_set.specs.WorkingSets.{IsOfKnown}
use Rattle.lost_jobs.specs.Fated.{fate_change}
use Rattle.lost_jobs.proofs.changes.changes_of.Given as goal

-- the changes so far, and those of the fates that are left
abbrev pub invariant-loop-fate : goal.invariant-loop-fate
invariant-loop-fate g l = record {
  reads : g.S.Units.reads l.fn.working_set l.working_set;
  told : g.S.Units.honest l.working_set → g.S.Units.well_kept l.fn.working_set
      → l.more ++ filter_map (fate_change (g.S.Units.world l.fn.working_set)) (drop l.fate-index l.fates)
      ≡ filter_map (fate_change (g.S.Units.world l.fn.working_set)) l.fates;
  known : g.S.Units.honest l.working_set → g.S.Units.well_kept l.fn.working_set → All (IsOfKnown (g.S.Units.world l.fn.working_set)) l.more;
}
