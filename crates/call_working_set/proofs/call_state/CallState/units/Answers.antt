use Rattle.std.proofs.Common.{rules}
use Rattle.call_working_set.proofs.UnitStates.{collected}
use Rattle.call_working_set.proofs.call_state.CallState.units.Goals as goal

-- the keys of the unit states are the workunits that were read, each once and in order
pub returns : goal.returns
returns c = collected c.args.self.now.unit_states c.collect.result c.keys.ensures.ordered (search rules)
