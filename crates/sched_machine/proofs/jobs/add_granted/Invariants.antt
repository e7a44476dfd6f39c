use Rattle.std.proofs.Common.{◌≡◌, ◌++◌, false, drop}
use Rattle.std.specs.Prelude.{filter_map}
use Rattle.job_choice.specs.Chosen.{places_of}
use Rattle.sched_book.specs.Step.{job_at}
use Rattle.sched_machine.specs.Granting.{AreRunBy}
use Rattle.sched_machine.proofs.jobs.add_granted.Given as goal

-- what is said of the jobs so far, and of those that are left
abbrev pub invariant-loop-job : goal.invariant-loop-job
invariant-loop-job g l = record {
  reads : g.S.Units.reads l.fn.working_set l.working_set;
  known : g.S.Units.honest l.working_set → g.S.Units.well_kept l.fn.working_set → AreRunBy (g.S.Draft.entry l.fn.working_set) l.host l.granted
      → l.jobs ++ filter_map (job_at (g.S.Units.world l.fn.working_set) l.host false) (places_of (drop l.job-index l.granted))
      ≡ l.fn.jobs ++ filter_map (job_at (g.S.Units.world l.fn.working_set) l.host false) (places_of l.granted);
}
