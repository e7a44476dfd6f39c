use Rattle.job_choice.specs.Offered.{IsUpToDate}
use Rattle.job_choice.proofs.Turns.{Resumes, Passes}
use Rattle.job_choice.proofs.choice.offer_all.Given as goal

-- what is chosen from the present place on is chosen from all
abbrev pub invariant-loop-stops : goal.invariant-loop-stops
invariant-loop-stops g l = record {
  reads : g.D.Units.reads l.initial.desk l.desk;
  resumes : g.D.Units.honest l.desk → g.D.Units.well_kept l.fn.desk → IsUpToDate (g.D.Units.world l.fn.desk) l.fn.choosing
      → Resumes (g.D.Units.world l.fn.desk) l.fn.choosing.host.now.account l.fn.choosing l.choosing l.from;
  passes : g.D.Units.honest l.desk → g.D.Units.well_kept l.fn.desk → IsUpToDate (g.D.Units.world l.fn.desk) l.fn.choosing
      → Passes (g.D.Units.world l.fn.desk) l.fn.choosing.host.now.account l.stops l.choosing l.from;
}
