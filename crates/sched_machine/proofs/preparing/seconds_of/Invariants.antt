use Rattle.std.proofs.Common.{◌≡◌, ◌+◌, drop}
use Rattle.std.specs.Prelude.{sum_by}
use Rattle.sched_book.specs.Fits.{estimate_at}
use Rattle.sched_machine.proofs.preparing.seconds_of.Given as goal

-- the sum so far, and that of the jobs that are left
abbrev pub invariant-loop-place : goal.invariant-loop-place
invariant-loop-place g l = record {
  reads : g.S.Units.reads l.fn.working_set l.working_set;
  known : g.S.Units.honest l.working_set → g.S.Units.well_kept l.fn.working_set
      → l.seconds + sum_by (estimate_at (g.S.Units.world l.fn.working_set) l.host) (drop l.place-index l.places)
      ≡ sum_by (estimate_at (g.S.Units.world l.fn.working_set) l.host) l.places;
}
