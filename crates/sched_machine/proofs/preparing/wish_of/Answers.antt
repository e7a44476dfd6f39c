use Rattle.std.proofs.Common.{◌∙◌}
use Rattle.sched_machine.proofs.Held.Now.{held_now_is}
use Rattle.sched_machine.proofs.preparing.wish_of.Goals as goal

pub returns-clause-held : goal.returns-clause-held
returns-clause-held g c = λ honest kept held no_more.
    let working_set = c.args.working_set.now in
    c.in_ok-held.ensures.count
    ∙ held_now_is (g.S.Draft.entry working_set) (g.S.Units.world working_set) c.args.call.now.number (g.S.Draft.kept working_set)
    (g.met.S.Draft.unit_states_are working_set kept) c.args.held.now held no_more
