use Rattle.sched_server.proofs.Owners.{owners_are_of_classes_at_a_message}
use Rattle.sched_server.proofs.laws.owners_are_of_classes_at_a_message.Goals as goal

pub returns : goal.returns
returns c = owners_are_of_classes_at_a_message
