use Rattle.rpc_records.proofs.Unique.{same_request}
use Rattle.rpc_records.proofs.laws.one_text_is_one_request.Goals as goal

pub returns : goal.returns
returns c = same_request
