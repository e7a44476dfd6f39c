use Rattle.past_laws.proofs.Owners.{owners_are_of_classes_over_messages}
use Rattle.past_laws.proofs.laws.owners_are_of_classes_over_messages.Goals as goal

pub returns : goal.returns
returns c = owners_are_of_classes_over_messages
