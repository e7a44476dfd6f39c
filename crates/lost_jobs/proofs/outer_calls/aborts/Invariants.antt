use Rattle.std.proofs.Common.{◌≡◌, ◌++◌, drop, map}
use Rattle.std.specs.Prelude.{filter}
use Rattle.sched_book.specs.Lost.{is_aborted, aborts}
use Rattle.lost_jobs.proofs.outer_calls.aborts.Given as goal

-- the names so far, and those among the names that are left
abbrev pub invariant-loop-name : goal.invariant-loop-name
invariant-loop-name g l = record {
  reads : g.U.Units.reads l.fn.units l.units;
  told : g.U.Units.honest l.units → g.U.Units.well_kept l.fn.units
      → l.aborted ++ filter (is_aborted (g.U.Units.world l.fn.units) l.host) (map (λ n. n.now) (drop l.name-index l.name-items))
      ≡ aborts (g.U.Units.world l.fn.units) l.host l.request.other_results;
}
