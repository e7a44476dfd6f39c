-- The reports so far, with what is read of the other items, are what is read of all.
use Rattle.std.proofs.Common.{◌≡◌, ◌++◌, drop, option_map}
use Rattle.serde_json.specs.View.{items_view}
use Rattle.rpc_records.specs.Values.{all_in, report_in}
use Rattle.rpc_records.proofs.decode.reports_of.Given as goal

abbrev pub invariant-loop-item : goal.invariant-loop-item
invariant-loop-item l =
    all_in report_in (items_view l.items)
    ≡ option_map (λ rest. l.reports.items ++ rest) (all_in report_in (items_view (drop l.item-index l.items)))
