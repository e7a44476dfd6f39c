use Rattle.std.proofs.Common.{sym, ◌∙◌}
use Rattle.call_working_set.proofs.CallStates.{read_in_turn}
use Rattle.call_working_set.proofs.reading.ask_unit_state.Goals as goal

-- the three look-ups read one world
pub returns-clause-answer : goal.returns-clause-answer
returns-clause-answer g c honest kept =
    let honest_b = g.met.D.Units.stays_honest _ _ c.instances_of.ensures.reads honest in
    let honest_a = g.met.D.Units.stays_honest _ _ c.agreement_of.ensures.reads honest_b in
    let kept_a = g.met.D.Units.stays_kept _ _ c.unit.ensures.reads honest_a kept in
    let kept_b = g.met.D.Units.stays_kept _ _ c.agreement_of.ensures.reads honest_b kept_a in
    read_in_turn (g.D.Units.world c.args.desk.now) (g.D.Units.world c.unit.new.self) (g.D.Units.world c.agreement_of.new.self) c.args.unit
    c.in-Some.row c.in-Some-2.agreement c.of-instances.result c.in_ok-new.field-0
    (g.met.D.Units.stays_same _ _ c.unit.ensures.reads honest_a kept)
    (g.met.D.Units.stays_same _ _ c.agreement_of.ensures.reads honest_b kept_a)
    (sym c.in-Some.is ∙ c.in_ok-row.ensures.answer honest_a kept)
    (sym c.in-Some-2.is ∙ c.in_ok-agreement.ensures.answer honest_b kept_a)
    (c.of-instances.ensures ∙ c.in_ok-instances_of.ensures.answer honest kept_b)
    c.in_ok-new.ensures
