use Rattle.past_laws.proofs.Holds as past
use Rattle.sched_machine.specs.Runs.{OwnersStay}
use Rattle.sched_server.proofs.Lasting.{lasts}
use Rattle.sched_server.proofs.laws.owners_stay.Goals as goal

pub returns : goal.returns
returns c = lasts OwnersStay past.owners_stay
