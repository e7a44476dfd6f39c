use Rattle.std.proofs.Common.{◌≡◌, sym, ap, subst, ◌∙◌, rules}
use Rattle.sched_book.specs.Delta.{EditsFit}
use Rattle.call_working_set.specs.declared.call_state.CallState.{CallState}
use Rattle.quorum_credit.proofs.FitReports.{call_state_fits}
use Rattle.quorum_credit.proofs.outer_calls.take_reports.Goals as goal

-- the working set returned its desk and its call state as the reports left them
pub returns-clause-fits : goal.returns-clause-fits
returns-clause-fits g c = λ honest kept told sound.
    let d = g.met.D.Units in
    let working_set = c.record_on.new.working_set in
    let same_desk : working_set.desk.now ≡ c.desk-2-1.given.0 = search rules in
    let same_call_state : working_set.call_state.now ≡ c.call_state-2-1.given.0 = search rules in
    let honest_2 = subst g.D.Units.honest (sym same_desk) honest in
    let honest_1 = d.stays_honest _ _ c.record_on.ensures.works.0 honest_2 in
    let kept_1 = d.stays_kept _ _ c.settings.ensures.reads honest_1 kept in
    let here = d.stays_same _ _ c.settings.ensures.reads honest_1 kept in
    let call_state = c.new-call_state.ensures.call_state _ (c.in_ok-settings.ensures.answer honest_1 kept ∙ ap (λ v. v.settings) (sym here)) in
    subst (λ (p : CallState). EditsFit (g.D.Units.world c.args.desk.now) p.edits) same_call_state
    (call_state_fits _ _ _ _ here c.new-call_state.ensures.edits (c.in_ok-acked.ensures.fits honest_2 (kept_1, call_state) told) sound)
