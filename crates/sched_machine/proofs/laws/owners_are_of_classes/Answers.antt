use Rattle.sched_machine.proofs.Classes.Owners.{owners_are_of_classes}
use Rattle.sched_machine.proofs.laws.owners_are_of_classes.Goals as goal

pub returns : goal.returns
returns c = owners_are_of_classes
