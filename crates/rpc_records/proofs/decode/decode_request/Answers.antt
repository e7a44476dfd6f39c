-- What is read is within the ranges.
use Rattle.rpc_records.proofs.InRange.{answer_in_range}
use Rattle.rpc_records.proofs.decode.decode_request.Goals as goal

pub returns-clause-in_range : goal.returns-clause-in_range
returns-clause-in_range c = answer_in_range _ _ c.request_in.ensures
