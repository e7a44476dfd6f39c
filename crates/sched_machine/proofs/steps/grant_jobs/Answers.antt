use Rattle.std.proofs.Common.{◌≡◌, rules, refl, sym, ap, ◌∙◌, subst}
use Rattle.sched_book.specs.Delta.{edited}
use Rattle.sched_book.specs.Step.{IsCaller, granted}
use Rattle.sched_book.specs.declared.world.World.{World}
use Rattle.job_choice.specs.Chosen.{places_of}
use Rattle.call_working_set.specs.WorkingSets.{IsCallStateOf}
use Rattle.call_working_set.specs.declared.call_state.CallState.{CallState}
use Rattle.sched_machine.specs.Granting.{with_classes, AreRunBy, CanTake, FitWithHost}
use Rattle.sched_machine.specs.Replying.{AreReplyParts, IsGranted}
use Rattle.sched_machine.proofs.Calls.Done.{granted_is}
use Rattle.sched_machine.proofs.Calls.Choice.{choice_settled, choice_ends, jobs_run}
use Rattle.sched_machine.proofs.steps.grant_jobs.Goals as goal

-- both calls read one world, and the working set returned its desk and its call state as the grant left them
pub returns-clause-step : goal.returns-clause-step
returns-clause-step g c = λ honest kept call_state ready.
    let d = g.met.D.Units in
    let w = g.D.Units.world c.args.desk.now in
    let k = c.args.ready.now in
    let r = c.args.request.now in
    let before = c.args.call_state.now.edits in
    let working_set = c.conclude.new.working_set in
    let after = working_set.call_state.now.edits in
    let jobs = c.as_slice.result.now in
    let told = c.in_ok-told.told in
    let worked = c.conclude.ensures.works in
    let same_desk : working_set.desk.now ≡ c.desk-2-1.given.0 = search rules in
    let same_call_state : working_set.call_state.now ≡ c.call_state-2-1.given.0 = search rules in
    let honest_2 = subst g.D.Units.honest (sym same_desk) honest in
    let honest_1 = d.stays_honest _ _ worked.0 honest_2 in
    let kept_1 = d.stays_kept _ _ c.choose.ensures.reads honest_1 kept in
    let same = d.stays_same _ _ c.choose.ensures.reads honest_1 kept in
    let same_2 = d.stays_same _ _ worked.0 honest_2 kept_1 in
    let chosen = c.in_ok-grant.ensures.answer honest_1 kept in
    let here = subst (λ (e : World). IsCallStateOf e c.args.call_state.now) (sym same) call_state in
    let grant = choice_settled w (edited w before) r c.args.now k before ready c.in_ok-grant.grant chosen in
    let ends = choice_ends w (edited w before) r c.args.now k before ready c.in_ok-grant.grant chosen in
    let runs = jobs_run w (edited w before) r c.args.now k before ready c.in_ok-grant.grant chosen in
    subst (λ (p : CallState). IsGranted w r c.args.now k (edited w p.edits) p.edits told c.in_ok-grant.grant.end_word) same_call_state
    (granted_is w (edited w before) r c.args.now k before ready (search rules) (edited w after) after jobs (places_of c.in_ok-grant.grant.jobs) told
    c.in_ok-grant.grant.end_word
    (subst (AreRunBy w k.call.host) (sym c.as_slice.ensures) runs) (ap places_of c.as_slice.ensures)
    grant ends
    (subst (λ (e : World). edited e after ≡ with_classes (granted (edited e before) k.call.number c.args.now (places_of jobs)) jobs) same
    (ap (λ (e : World). edited e after) (sym same_2) ∙ c.in_ok-told.ensures.left honest_2 (kept_1, here)))
    refl
    (subst (λ (e : World). CanTake e jobs → FitWithHost e k.call.number before → FitWithHost e k.call.number after) same
    (c.in_ok-told.ensures.fits honest_2 (kept_1, here)))
    (subst (λ js. AreReplyParts w (edited w after) k (places_of js) told) c.as_slice.ensures
    (subst (λ (e : World). IsCaller e k.call.caller r → AreRunBy e k.call.host jobs → AreReplyParts e (edited e after) k (places_of jobs) told) same
    (λ caller run. subst (λ (e : World). AreReplyParts (g.D.Units.world c.choose.new.desk) (edited e after) k (places_of jobs) told) same_2
    (c.in_ok-told.ensures.told honest_2 (kept_1, here) caller run)) ready.calling.admitted.caller
    (subst (AreRunBy w k.call.host) (sym c.as_slice.ensures) runs))))
