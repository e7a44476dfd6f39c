use Rattle.std.proofs.Common.{rules, sym, ap, ◌∙◌, subst}
use Rattle.sched_book.specs.Delta.{edited, EditsFit}
use Rattle.sched_book.specs.Sound.{Sound}
use Rattle.sched_book.specs.Step.{RpcStep}
use Rattle.sched_book.specs.declared.machine.Answered.TheVariants as answered
use Rattle.sched_book.specs.declared.machine.Call.TheVariants as call
use Rattle.sched_book.specs.declared.world.World.{World}
use Rattle.sched_machine.specs.Calling.{IsAdmitted}
use Rattle.sched_machine.proofs.Moves.Sound.{step_keeps_sound}
use Rattle.sched_machine.proofs.steps.step_call.Goals as goal

pub returns-clause-step : goal.returns-clause-step
returns-clause-step g c = λ honest kept.
    let d = g.met.D.Units in
    let honest_1 = d.stays_honest _ _ c.act.ensures.reads honest in
    let kept_1 = d.stays_kept _ _ c.settings.ensures.reads honest_1 kept in
    let here = d.stays_same _ _ c.settings.ensures.reads honest_1 kept in
    let call_state = c.new-call_state.ensures.call_state _ (c.in_ok-settings.ensures.answer honest_1 kept ∙ ap (λ (v : World). v.settings) (sym here)) in
    subst (λ (e : World). Sound e → IsAdmitted e c.args.caller.now c.args.request.now
    → RpcStep e c.args.caller.now c.args.request.now c.args.now (edited e c.act.new.call_state.edits) c.in_ok-reply.reply) here
    (c.in_ok-reply.ensures.step honest kept_1 call_state c.new-call_state.ensures.edits)

pub returns-clause-sound : goal.returns-clause-sound
returns-clause-sound g c = λ honest kept sound admitted.
    step_keeps_sound _ _ (call.Rpc c.args.caller.now c.args.request.now) c.args.now (answered.Rpc c.in_ok-reply.reply) sound admitted.limits (search rules)
    (returns-clause-step g c honest kept sound admitted)

pub returns-clause-fits : goal.returns-clause-fits
returns-clause-fits g c = λ honest kept.
    let d = g.met.D.Units in
    let honest_1 = d.stays_honest _ _ c.act.ensures.reads honest in
    let kept_1 = d.stays_kept _ _ c.settings.ensures.reads honest_1 kept in
    let here = d.stays_same _ _ c.settings.ensures.reads honest_1 kept in
    let call_state = c.new-call_state.ensures.call_state _ (c.in_ok-settings.ensures.answer honest_1 kept ∙ ap (λ (v : World). v.settings) (sym here)) in
    subst (λ (e : World). Sound e → IsAdmitted e c.args.caller.now c.args.request.now → EditsFit e c.act.new.call_state.edits) here
    (c.in_ok-reply.ensures.fits honest kept_1 call_state c.new-call_state.ensures.edits)
