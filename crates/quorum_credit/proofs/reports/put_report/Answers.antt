use Rattle.std.proofs.Common.{sym, ap, ◌∙◌, [], ◌∷◌, ◌++◌}
use Rattle.sched_book.specs.Count.{has_failed}
use Rattle.sched_book.specs.Places.{status_at}
use Rattle.sched_book.specs.Delta.{edited_one}
use Rattle.sched_book.specs.declared.delta.Edit.TheVariants as edit
use Rattle.quorum_credit.proofs.FitReports.{fit_report}
use Rattle.quorum_credit.specs.UnitStates.{reported_on}
use Rattle.quorum_credit.proofs.OnUnitStates.{reported-is}
use Rattle.quorum_credit.proofs.Recorded.{report_some}
use Rattle.quorum_credit.proofs.reports.put_report.Goals as goal

pub returns-in_ok-put_instance-in-Some-clause-put : goal.returns-in_ok-put_instance-in-Some-clause-put
returns-in_ok-put_instance-in-Some-clause-put g c = λ honest kept.
    let u = g.met.S.Units in
    let honest_1 = g.met.S.Draft.works_honest _ _ c.put_instance.ensures.works honest in
    let row =
    sym (c.in_ok-reported_on.ensures.value ∙ ap (λ o. reported_on c.args.host c.args.report.now o c.args.place.number) c.unit_state.ensures
    ∙ reported-is c.args.host c.args.report.now (g.S.Draft.entry c.args.working_set.now) (g.S.Units.world c.args.working_set.now) c.args.place _
    (c.in_ok-read.ensures.answer honest_1 kept)) ∙ c.in-Some.is in
    let kept_1 = u.stays_kept _ _ c.read.ensures.reads honest_1 kept in
    let here = u.stays_same _ _ c.read.ensures.reads honest_1 kept in
    c.in_ok-put_instance-in-Some.ensures.put honest kept_1
    ∙ ap (λ w. edited_one w (edit.Instance c.args.place c.in-Some.row)) here
    ∙ report_some (g.S.Draft.entry c.args.working_set.now) c.args.host (g.S.Units.world c.args.working_set.now) c.args.report.now c.args.place c.in-Some.row row

pub returns-in_ok-put_instance-in-Some-clause-fits : goal.returns-in_ok-put_instance-in-Some-clause-fits
returns-in_ok-put_instance-in-Some-clause-fits g c = λ honest kept told.
    let honest_1 = g.met.S.Draft.works_honest _ _ c.put_instance.ensures.works honest in
    let row =
    sym (c.in_ok-reported_on.ensures.value ∙ ap (λ o. reported_on c.args.host c.args.report.now o c.args.place.number) c.unit_state.ensures
    ∙ reported-is c.args.host c.args.report.now (g.S.Draft.entry c.args.working_set.now) (g.S.Units.world c.args.working_set.now) c.args.place _
    (c.in_ok-read.ensures.answer honest_1 kept)) ∙ c.in-Some.is in
    let entry = g.S.Draft.entry c.args.working_set.now in
    fit_report entry (g.S.Units.world c.args.working_set.now) c.args.host c.args.report.now (has_failed (status_at entry c.args.place.unit)) c.args.place c.in-Some.row (g.S.Draft.edits c.args.working_set.now) (g.S.Draft.edits c.put_instance.new.self)
    (g.met.S.Draft.is_edited c.args.working_set.now)
    row
    (c.in_ok-put_instance-in-Some.ensures.edits
    ∙ ap (λ cs. cs ++ edit.Instance c.args.place c.in-Some.row ∷ []) (g.met.S.Draft.reads_edits _ _ c.read.ensures.reads))
    told.output
