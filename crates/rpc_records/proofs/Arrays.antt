-- The length of an array is that of its vector.
use Rattle.serde_json.proofs.Views.{items_len-items_view}

pub ruleset array_lengths = (items_len-items_view)
