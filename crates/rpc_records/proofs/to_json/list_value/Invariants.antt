-- The values so far are those of the items passed.
use Rattle.std.proofs.Common.{◌≡◌, map, take}
use Rattle.serde_json.specs.View.{view}
use Rattle.rpc_records.proofs.to_json.list_value.Given as goal

abbrev pub invariant-loop-item : goal.invariant-loop-item
invariant-loop-item g l = map view l.values.items ≡ map g.T.ToJson.json (take l.item-index l.items)
