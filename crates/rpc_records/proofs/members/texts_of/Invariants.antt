-- The texts so far, with what is read of the other items, are what is read of all.
use Rattle.std.proofs.Common.{◌≡◌, ◌++◌, drop, option_map}
use Rattle.serde_json.specs.View.{items_view}
use Rattle.rpc_records.specs.Values.{text_in, all_in}
use Rattle.rpc_records.proofs.members.texts_of.Given as goal

abbrev pub invariant-loop-item : goal.invariant-loop-item
invariant-loop-item l =
    all_in (text_in l.kind) (items_view l.items)
    ≡ option_map (λ rest. l.texts.items ++ rest) (all_in (text_in l.kind) (items_view (drop l.item-index l.items)))
