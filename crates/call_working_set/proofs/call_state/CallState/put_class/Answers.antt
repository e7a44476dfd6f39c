use Rattle.std.proofs.Common.{◌∙◌}
use Rattle.call_working_set.proofs.CallStates.{class_put}
use Rattle.call_working_set.proofs.call_state.CallState.put_class.Goals as goal

pub returns-in-Ok-clause-call_state : goal.returns-in-Ok-clause-call_state
returns-in-Ok-clause-call_state c w call_state =
    class_put w c.args.self.now c.class_on_unit_state.new.self c.args.unit c.args.class.now c.in_ok-pushed.pushed
    c.in_ok-pushed.ensures
    c.class_on_unit_state.ensures.settings c.class_on_unit_state.ensures.hosts (c.class_on_unit_state.ensures.edits ∙ c.in_ok-push.ensures.ok) c.in-Ok.ensures.ok call_state
