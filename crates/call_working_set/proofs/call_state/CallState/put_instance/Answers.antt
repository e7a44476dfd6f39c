use Rattle.std.proofs.Common.{sym, ◌∙◌}
use Rattle.call_working_set.proofs.CallStates.{instance_put}
use Rattle.call_working_set.proofs.call_state.CallState.put_instance.Goals as goal

-- the call state with the instance is a call state of the same call
pub returns-in-Ok-clause-call_state : goal.returns-in-Ok-clause-call_state
returns-in-Ok-clause-call_state c w call_state =
    instance_put w c.args.self.now c.put_on_unit_state.new.self c.args.place c.in_ok-pushed.pushed c.in_ok-put.put
    (c.in_ok-put.ensures ∙ sym c.in_ok-pushed.ensures)
    c.put_on_unit_state.ensures.settings c.put_on_unit_state.ensures.hosts (c.put_on_unit_state.ensures.edits ∙ c.in_ok-push.ensures.ok) c.in-Ok.ensures.ok call_state
