use Rattle.std.proofs.Common.{sym, ap, subst, ◌∙◌}
use Rattle.call_working_set.specs.WorkingSets.{IsCallStateOf}
use Rattle.table_changes.proofs.calls.call_state_of.Goals as goal

pub returns-clause-call_state : goal.returns-clause-call_state
returns-clause-call_state g c = λ honest kept.
    let d = g.met.D.Units in
    let before = d.stays_honest _ _ c.put_onto.ensures.reads honest in
    let well = d.stays_kept _ _ c.settings.ensures.reads before kept in
    let same = d.stays_same _ _ c.settings.ensures.reads before kept in
    let empty = c.new-call_state.ensures.call_state (g.D.Units.world c.settings.new.self) (c.in_ok-settings.ensures.answer before kept ∙ ap (λ w. w.settings) (sym same)) in
    c.in_ok-decide_all.ensures.call_state (g.D.Units.world c.args.desk.now) (subst (λ w. IsCallStateOf w c.put_onto.new.call_state) same (c.put_onto.ensures.call_state honest well empty))
