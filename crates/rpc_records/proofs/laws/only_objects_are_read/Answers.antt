use Rattle.rpc_records.proofs.FirstFault.{meaning-no_object}
use Rattle.rpc_records.proofs.laws.only_objects_are_read.Goals as goal

pub returns : goal.returns
returns c = meaning-no_object
