use Rattle.rpc_records.proofs.InRange.{meaning_in_range}
use Rattle.rpc_records.proofs.laws.what_is_read_is_in_range.Goals as goal

pub returns : goal.returns
returns c = meaning_in_range
