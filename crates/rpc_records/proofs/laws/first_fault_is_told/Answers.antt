use Rattle.rpc_records.proofs.FirstFault.{refusal_of-meaning}
use Rattle.rpc_records.proofs.laws.first_fault_is_told.Goals as goal

pub returns : goal.returns
returns c = refusal_of-meaning
