use Rattle.std.proofs.Common.{◌≡◌, drop, map}
use Rattle.std.specs.Prelude.{fold, All}
use Rattle.rpc_records.specs.Ranges.{IsReport}
use Rattle.sched_book.specs.Reports.{record_one}
use Rattle.quorum_credit.specs.Limited.{FitWithin}
use Rattle.quorum_credit.proofs.reports.take_in_turn.Given as goal

-- what the reports that are left do to the world; and the changes so far fit
abbrev pub invariant-loop-report : goal.invariant-loop-report
invariant-loop-report g l = record {
  works : g.S.Draft.works l.fn.working_set l.working_set;
  told : g.S.Units.honest l.working_set → g.S.Units.well_kept l.fn.working_set
      → fold (record_one (g.S.Draft.entry l.fn.working_set) l.host) (g.S.Units.world l.working_set) (map (λ r. r.now) (drop l.report-index l.reports))
      ≡ fold (record_one (g.S.Draft.entry l.fn.working_set) l.host) (g.S.Units.world l.fn.working_set) (map (λ r. r.now) l.reports);
  fits : g.S.Units.honest l.working_set → g.S.Units.well_kept l.fn.working_set → All (λ r. IsReport r.now) l.reports
      → FitWithin (g.S.Draft.entry l.fn.working_set) (g.S.Draft.edits l.fn.working_set) → FitWithin (g.S.Draft.entry l.fn.working_set) (g.S.Draft.edits l.working_set);
}
