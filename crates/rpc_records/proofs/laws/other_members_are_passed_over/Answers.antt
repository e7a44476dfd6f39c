use Rattle.rpc_records.proofs.Others.{meaning_of_members}
use Rattle.rpc_records.proofs.laws.other_members_are_passed_over.Goals as goal

pub returns : goal.returns
returns c = meaning_of_members
