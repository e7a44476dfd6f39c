use Rattle.std.proofs.Common.{◌≡◌, [], rules, sym, ap, ◌∙◌, subst}
use Rattle.sched_book.specs.Delta.{edited}
use Rattle.sched_book.specs.Sound.{Sound}
use Rattle.sched_book.specs.Step.{RpcStep}
use Rattle.sched_book.specs.declared.settings.Settings.{Settings}
use Rattle.sched_book.specs.declared.world.World.{World}
use Rattle.call_working_set.specs.WorkingSets.{IsCallStateOf}
use Rattle.call_working_set.specs.declared.call_state.CallState.{CallState}
use Rattle.sched_machine.specs.Calling.{IsAdmitted}
use Rattle.sched_machine.specs.Prepared.{IsReady}
use Rattle.sched_machine.specs.Replying.{IsGranted}
use Rattle.sched_machine.proofs.Calls.Done.{call_is_step}
use Rattle.sched_machine.proofs.steps.act.Given
use Rattle.sched_machine.proofs.steps.act.Goals as goal

-- the desk that the working set returned was honest
given_honest : (g : Given.Over) (c : goal.After-reply_of g) → g.D.Units.honest c.grant_jobs.new.desk → g.D.Units.honest c.prepare.new.working_set.desk.now
given_honest g c honest =
    let same : c.prepare.new.working_set.desk.now ≡ c.desk-2-1.given.0 = search rules in
    subst g.D.Units.honest (sym same) (g.met.D.Units.stays_honest _ _ c.grant_jobs.ensures.reads honest)

-- what the two parts say of the one world that they read
granted_by : (g : Given.Over) (c : goal.After-reply_of g) → g.D.Units.honest c.grant_jobs.new.desk → g.D.Units.well_kept c.args.desk.now
    → IsCallStateOf (g.D.Units.world c.args.desk.now) c.args.call_state.now → c.args.call_state.now.edits ≡ [] → Sound (g.D.Units.world c.args.desk.now)
    → IsAdmitted (g.D.Units.world c.args.desk.now) c.args.caller.now c.args.request.now
    → IsGranted (g.D.Units.world c.args.desk.now) c.args.request.now c.args.now c.in_ok-ready.ready
    (edited (g.D.Units.world c.args.desk.now) c.grant_jobs.new.call_state.edits) c.grant_jobs.new.call_state.edits c.in_ok-told.told c.in_ok-told.end_word
granted_by g c honest kept call_state none sound admitted =
    let d = g.met.D.Units in
    let w = g.D.Units.world c.args.desk.now in
    let r = c.args.request.now in
    let k = c.in_ok-ready.ready in
    let working_set = c.prepare.new.working_set in
    let first = working_set.call_state.now.edits in
    let after = c.grant_jobs.new.call_state.edits in
    let worked = c.prepare.ensures.works in
    let same_desk : working_set.desk.now ≡ c.desk-2-1.given.0 = search rules in
    let same_call_state : c.call_state-2-1.given.0 ≡ working_set.call_state.now = search rules in
    let honest_1 = given_honest g c honest in
    let kept_1 = subst g.D.Units.well_kept same_desk (d.stays_kept _ _ worked.0 honest_1 kept) in
    let begun = g.D.Units.world c.desk-2-1.given.0 in
    let left = d.stays_same _ _ worked.0 honest_1 kept in
    let told = subst (λ (p : CallState). IsCallStateOf begun p → IsReady begun r c.args.now k (edited begun p.edits) p.edits
    → IsGranted begun r c.args.now k (edited begun after) after c.in_ok-told.told c.in_ok-told.end_word) same_call_state (c.in_ok-told.ensures.step honest kept_1) in
    let ready = subst (λ (e : World). IsReady w r c.args.now k (edited e first) first) left (c.in_ok-ready.ensures.ready honest_1 (kept, call_state) none sound admitted) in
    subst (λ (e : World). IsCallStateOf e working_set.call_state.now → IsReady e r c.args.now k (edited e first) first
    → IsGranted e r c.args.now k (edited e after) after c.in_ok-told.told c.in_ok-told.end_word) (ap g.D.Units.world (sym same_desk) ∙ left) told
    (worked.1 honest_1 kept call_state) ready

pub returns-clause-step : goal.returns-clause-step
returns-clause-step g c = λ honest kept call_state none sound admitted.
    let d = g.met.D.Units in
    let w = g.D.Units.world c.args.desk.now in
    let r = c.args.request.now in
    let k = c.in_ok-ready.ready in
    let first = c.prepare.new.working_set.call_state.now.edits in
    let after = c.grant_jobs.new.call_state.edits in
    let honest_1 = given_honest g c honest in
    let left = d.stays_same _ _ c.prepare.ensures.works.0 honest_1 kept in
    let ready = subst (λ (e : World). IsReady w r c.args.now k (edited e first) first) left (c.in_ok-ready.ensures.ready honest_1 (kept, call_state) none sound admitted) in
    subst (λ caller. RpcStep w caller r c.args.now (edited w after) c.reply_of.result) c.in_ok-ready.ensures.caller
    (call_is_step w (edited w first) r c.args.now k first ready (search rules) (edited w after) after c.in_ok-told.told c.in_ok-told.end_word
    (granted_by g c honest kept call_state none sound admitted)
    c.reply_of.result _ (ap (λ (s : Settings). s.request_delay) call_state.settings) c.reply_of.ensures)

pub returns-clause-fits : goal.returns-clause-fits
returns-clause-fits g c = λ honest kept call_state none sound admitted. (granted_by g c honest kept call_state none sound admitted).fits

pub returns-clause-room : goal.returns-clause-room
returns-clause-room g c = λ honest kept call_state. c.in_ok-ready.ensures.room (given_honest g c honest) (kept, call_state)
