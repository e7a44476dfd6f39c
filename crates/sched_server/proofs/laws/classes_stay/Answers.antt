use Rattle.past_laws.proofs.Holds as past
use Rattle.sched_machine.specs.Classes.{ClassesStay}
use Rattle.sched_server.proofs.Lasting.{lasts}
use Rattle.sched_server.proofs.laws.classes_stay.Goals as goal

pub returns : goal.returns
returns c = lasts ClassesStay past.classes_stay
