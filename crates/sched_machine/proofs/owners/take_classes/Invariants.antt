use Rattle.std.proofs.Common.{◌≡◌, ℕ, drop}
use Rattle.std.specs.Prelude.{All}
use Rattle.sched_book.specs.declared.delta.Edit.TheVariants as edit
use Rattle.call_working_set.specs.WorkingSets.{IsOfKnown}
use Rattle.job_choice.specs.declared.granted.Granted.{Granted}
use Rattle.sched_machine.specs.Granting.{with_classes, CanTake, FitWithHost}
use Rattle.sched_machine.proofs.owners.take_classes.Given as goal

-- what the classes that are left do to the world; and the changes so far fit
abbrev pub invariant-loop-job : goal.invariant-loop-job
invariant-loop-job g l = record {
  works : g.S.Draft.works l.fn.working_set l.working_set;
  told : g.S.Units.honest l.working_set → g.S.Units.well_kept l.fn.working_set
      → with_classes (g.S.Units.world l.working_set) (drop l.job-index l.jobs) ≡ with_classes (g.S.Units.world l.fn.working_set) l.jobs;
  fits : g.S.Units.honest l.working_set → g.S.Units.well_kept l.fn.working_set → (host : ℕ) → CanTake (g.S.Draft.entry l.fn.working_set) l.jobs
      → FitWithHost (g.S.Draft.entry l.fn.working_set) host (g.S.Draft.edits l.fn.working_set)
      → FitWithHost (g.S.Draft.entry l.fn.working_set) host (g.S.Draft.edits l.working_set);
  known : g.S.Units.honest l.working_set → g.S.Units.well_kept l.fn.working_set
      → All (λ (j : Granted). IsOfKnown (g.S.Units.world l.fn.working_set) (edit.Class j.place.unit j.version.class)) l.jobs
      → All (λ (j : Granted). IsOfKnown (g.S.Units.world l.working_set) (edit.Class j.place.unit j.version.class)) l.jobs;
}
