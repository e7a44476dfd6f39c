use Rattle.std.proofs.Common.{◌≡◌, take, map}
use Rattle.lost_jobs.specs.Fates.{fate}
use Rattle.lost_jobs.proofs.fates.fates_on.Given as goal

-- the fates of the jobs so far
abbrev pub invariant-loop-place : goal.invariant-loop-place
invariant-loop-place g l = record {
  reads : g.S.Units.reads l.fn.working_set l.working_set;
  told : g.S.Units.honest l.working_set → g.S.Units.well_kept l.fn.working_set
      → l.fates ≡ map (fate (g.S.Draft.entry l.fn.working_set) l.host l.now) (take l.place-index l.lost);
}
