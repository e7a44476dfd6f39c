use Rattle.sched_machine.proofs.Classes.ByPlace.{classes_are_by_place}
use Rattle.sched_machine.proofs.laws.classes_are_by_place.Goals as goal

pub returns : goal.returns
returns c = classes_are_by_place
