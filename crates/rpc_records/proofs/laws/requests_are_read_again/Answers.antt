use Rattle.rpc_records.proofs.Unique.{meaning-canonical_text}
use Rattle.rpc_records.proofs.laws.requests_are_read_again.Goals as goal

pub returns : goal.returns
returns c = meaning-canonical_text
