-- One more report: the working set belongs to the same call as at the beginning.
use Rattle.std.proofs.Common.{◌+◌, List, map, drop, sym, ap, ◌∙◌, subst, Bor}
use Rattle.std.specs.Prelude.{fold}
use Rattle.std.proofs.lemmas.List.{at_drop_more}
use Rattle.rpc_records.specs.Ranges.{IsReport}
use Rattle.rpc_records.specs.declared.request.Report.{Report}
use Rattle.sched_book.specs.Reports.{record_one}
use Rattle.quorum_credit.specs.Limited.{FitWithin}
use Rattle.quorum_credit.proofs.FitReports.{report_there}
use Rattle.quorum_credit.proofs.reports.take_in_turn.Goals as goal

pub loop-report-preserved : goal.loop-report-preserved
loop-report-preserved g c =
    let draft = g.met.S.Draft in
    let inv = c.loop-report.invariant in
    let reports = c.args.reports.now in
    let i = c.loop-report.report-index in
    let step = record_one (g.S.Draft.entry c.args.working_set.now) c.args.host in
    let so_far = g.S.Units.world c.loop-report.working_set in
    record {
      works = draft.works_on _ _ _ inv.works c.take_report.ensures.works;
      told = λ honest kept.
          let before = draft.works_honest _ _ c.take_report.ensures.works honest in
          let well = draft.works_kept _ _ inv.works before kept in
          let entry = draft.works_entry _ _ inv.works before kept in
          ap (λ w. fold step w (map (λ (r : Bor Report). r.now) (drop (i + 1) reports)))
          (c.in_ok-take_report.ensures.taken honest well
          ∙ ap (λ w. record_one w c.args.host so_far c.report-item.result.now) entry
          ∙ ap (λ (r : Bor Report). step so_far r.now) c.report-item.is)
          ∙ sym (at_drop_more (λ (rs : List (Bor Report)). fold step so_far (map (λ (r : Bor Report). r.now) rs)) reports i _ c.loop-report-test.true)
          ∙ inv.told before kept;
      fits = λ honest kept told fit.
          let before = draft.works_honest _ _ c.take_report.ensures.works honest in
          let well = draft.works_kept _ _ inv.works before kept in
          let entry = draft.works_entry _ _ inv.works before kept in
          let here : IsReport c.report-item.result.now = report_there reports i c.report-item.result _ c.report-item.is c.loop-report-test.true told in
          subst (λ w. FitWithin w (g.S.Draft.edits c.loop-report.working_set) → FitWithin w (g.S.Draft.edits c.take_report.new.working_set)) entry
          (c.in_ok-take_report.ensures.fits honest well here) (inv.fits before kept told fit);
    }
