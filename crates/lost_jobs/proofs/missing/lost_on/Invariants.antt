use Rattle.std.proofs.Common.{◌≡◌, ◌++◌, drop}
use Rattle.std.specs.Prelude.{filter}
use Rattle.lost_jobs.specs.Holding.{is_missing}
use Rattle.lost_jobs.proofs.missing.lost_on.Given as goal

-- the places so far, and those among the places that are left
abbrev pub invariant-loop-place : goal.invariant-loop-place
invariant-loop-place g l = record {
  reads : g.S.Units.reads l.fn.working_set l.working_set;
  told : g.S.Units.honest l.working_set → g.S.Units.well_kept l.fn.working_set
      → l.missing ++ filter (is_missing (g.S.Units.world l.fn.working_set) l.host l.listed) (drop l.place-index l.held)
      ≡ filter (is_missing (g.S.Units.world l.fn.working_set) l.host l.listed) l.held;
}
