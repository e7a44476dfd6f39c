use Rattle.std.proofs.Common.{◌≡◌, ◌≤◌, refl, sym, ap, ◌∙◌, subst, arith, rules}
use Rattle.std.specs.Prelude.{length}
use Rattle.sched_book.specs.Delta.{edited}
use Rattle.sched_book.specs.Places.{overdue}
use Rattle.sched_book.specs.Settle.{settled}
use Rattle.sched_book.specs.Sound.{Sound}
use Rattle.sched_book.specs.Step.{TickStep}
use Rattle.sched_book.specs.declared.world.World.{World}
use Rattle.quorum_credit.specs.Late.{lapsed_at, AreHeldInTurn}
use Rattle.quorum_credit.proofs.LateOnes.{overdue_in_turn}
use Rattle.sched_book.proofs.Bounded.{sound_is_bounded, instances_are_few}
use Rattle.sched_machine.proofs.Moves.Sound.{tick_keeps_sound}
use Rattle.sched_machine.proofs.steps.step_tick.Goals as goal

pub returns-clause-sound : goal.returns-clause-sound
returns-clause-sound g c = λ honest kept sound.
    let d = g.met.D.Units in
    let w = g.D.Units.world c.args.desk.now in
    let edits = c.in_ok-edits.edits in
    let honest_1 = d.stays_honest _ _ c.lapse_places.ensures.reads honest in
    let kept_1 = d.stays_kept _ _ c.due_before.ensures.reads honest_1 kept in
    let same = d.stays_same _ _ c.due_before.ensures.reads honest_1 kept in
    let late = c.as_slice.ensures ∙ c.in_ok-places.ensures.answer honest_1 kept in
    let left = subst (λ (v : World). edited v edits ≡ settled v (lapsed_at v c.as_slice.result.now)) same (c.in_ok-edits.ensures.settled honest kept_1 (subst Sound (sym same) sound)) in
    let step : TickStep w c.args.now (edited w edits) (length (overdue w c.args.now)) = record { left = left ∙ ap (λ ps. settled w (lapsed_at w ps)) late; answer = refl } in
    tick_keeps_sound w _ c.args.now _ sound step

-- what is overdue is held
pub returns-in_err-edits-clause-causes : goal.returns-in_err-edits-clause-causes
returns-in_err-edits-clause-causes g c honest kept sound =
    let d = g.met.D.Units in
    let w = g.D.Units.world c.args.desk.now in
    let honest_1 = d.stays_honest _ _ c.lapse_places.ensures.reads honest in
    let kept_1 = d.stays_kept _ _ c.due_before.ensures.reads honest_1 kept in
    let same = d.stays_same _ _ c.due_before.ensures.reads honest_1 kept in
    let late = c.as_slice.ensures ∙ c.in_ok-places.ensures.answer honest_1 kept in
    let turns = subst (λ (v : World). AreHeldInTurn v c.as_slice.result.now) (sym same)
    (subst (AreHeldInTurn w) (sym late) (overdue_in_turn w c.args.now)) in
    let why = d.stays_failing _ _ c.due_before.ensures.reads honest_1 kept _ (c.in_err-edits.ensures.causes honest kept_1 (subst Sound (sym same) sound) turns) in
    search (rules, why)

-- at most 20,000,000 are
pub returns-in_default-clause-causes : goal.returns-in_default-clause-causes
returns-in_default-clause-causes g c honest kept sound =
    let w = g.D.Units.world c.args.desk.now in
    let few : length (overdue w c.args.now) ≤ 20000000 = (instances_are_few w (sound_is_bounded w sound)).overdue c.args.now in
    let places : c.in_ok-places.places ≡ overdue w c.args.now = c.in_ok-places.ensures.answer honest kept in
    let long : length c.in_ok-places.places ≤ 20000000 = subst (λ ps. length ps ≤ 20000000) (sym places) few in
    search (rules, long, arith)
