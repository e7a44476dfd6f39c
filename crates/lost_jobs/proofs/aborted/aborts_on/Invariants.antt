use Rattle.std.proofs.Common.{◌≡◌, ◌++◌, drop, map}
use Rattle.std.specs.Prelude.{filter}
use Rattle.sched_book.specs.Lost.{is_aborted, aborts}
use Rattle.lost_jobs.proofs.aborted.aborts_on.Given as goal

-- the names so far, and those among the names that are left
abbrev pub invariant-loop-name : goal.invariant-loop-name
invariant-loop-name g l = record {
  reads : g.S.Units.reads l.fn.working_set l.working_set;
  told : g.S.Units.honest l.working_set → g.S.Units.well_kept l.fn.working_set
      → l.aborted ++ filter (is_aborted (g.S.Units.world l.fn.working_set) l.host) (map (λ n. n.now) (drop l.name-index l.name-items))
      ≡ aborts (g.S.Units.world l.fn.working_set) l.host l.request.other_results;
}
