-- The text of a constant is found by computing.
use Rattle.std.proofs.Common.{refl}
use Rattle.std.specs.Fmt.{digits}
use Rattle.serde_json.proofs.OnLiterals.{serde_json_on_literals}
use Rattle.rpc_records.specs.Replies.{fault_text_of}
use Rattle.rpc_records.proofs.answers.unavailable_text.Goals as goal

pub returns : goal.returns
unfolding serde_json_on_literals digits fault_text_of
returns c = refl
