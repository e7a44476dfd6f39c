use Rattle.sched_machine.proofs.Classes.Runs.{owners_are_of_classes_in_runs}
use Rattle.sched_machine.proofs.laws.owners_are_of_classes_in_runs.Goals as goal

pub returns : goal.returns
returns c = owners_are_of_classes_in_runs
