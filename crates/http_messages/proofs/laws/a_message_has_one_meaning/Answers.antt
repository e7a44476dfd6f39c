use Rattle.http_messages.proofs.MeaningLemmas.{one_meaning}
use Rattle.http_messages.proofs.laws.a_message_has_one_meaning.Goals as goal

pub returns : goal.returns
returns c = one_meaning
