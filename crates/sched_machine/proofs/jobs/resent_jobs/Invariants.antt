use Rattle.std.proofs.Common.{◌≡◌, ◌++◌, true, drop}
use Rattle.std.specs.Prelude.{filter_map}
use Rattle.sched_book.specs.Step.{job_at}
use Rattle.sched_machine.proofs.jobs.resent_jobs.Given as goal

-- what is said of the jobs so far, and of those that are left
abbrev pub invariant-loop-place : goal.invariant-loop-place
invariant-loop-place g l = record {
  reads : g.S.Units.reads l.fn.working_set l.working_set;
  known : g.S.Units.honest l.working_set → g.S.Units.well_kept l.fn.working_set
      → l.jobs ++ filter_map (job_at (g.S.Units.world l.fn.working_set) l.host true) (drop l.place-index l.places)
      ≡ filter_map (job_at (g.S.Units.world l.fn.working_set) l.host true) l.places;
}
