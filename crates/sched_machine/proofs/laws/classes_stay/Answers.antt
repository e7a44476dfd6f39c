use Rattle.sched_machine.proofs.Classes.Runs.{classes_stay}
use Rattle.sched_machine.proofs.laws.classes_stay.Goals as goal

pub returns : goal.returns
returns c = classes_stay
