use Rattle.std.proofs.Common.{◌≡◌, drop}
use Rattle.std.specs.Prelude.{fold}
use Rattle.sched_book.specs.Step.{grant_one}
use Rattle.job_choice.specs.Chosen.{places_of}
use Rattle.sched_machine.specs.Granting.{AreThere, FitWithHost}
use Rattle.sched_machine.proofs.owners.own_all.Given as goal

-- what the jobs that are left do to the world; and the changes so far fit
abbrev pub invariant-loop-job : goal.invariant-loop-job
invariant-loop-job g l = record {
  works : g.S.Draft.works l.fn.working_set l.working_set;
  told : g.S.Units.honest l.working_set → g.S.Units.well_kept l.fn.working_set
      → fold (grant_one l.host l.now) (g.S.Units.world l.working_set) (places_of (drop l.job-index l.jobs))
      ≡ fold (grant_one l.host l.now) (g.S.Units.world l.fn.working_set) (places_of l.jobs);
  fits : g.S.Units.honest l.working_set → g.S.Units.well_kept l.fn.working_set
      → FitWithHost (g.S.Draft.entry l.fn.working_set) l.host (g.S.Draft.edits l.fn.working_set)
      → FitWithHost (g.S.Draft.entry l.fn.working_set) l.host (g.S.Draft.edits l.working_set);
  there : g.S.Units.honest l.working_set → g.S.Units.well_kept l.fn.working_set
      → AreThere (g.S.Units.world l.fn.working_set) (places_of l.jobs) → AreThere (g.S.Units.world l.working_set) (places_of (drop l.job-index l.jobs));
}
