use Rattle.past_laws.proofs.Holds as past
use Rattle.sched_machine.specs.Decisions.{StatusesStay}
use Rattle.sched_server.proofs.Lasting.{lasts}
use Rattle.sched_server.proofs.laws.statuses_stay.Goals as goal

pub returns : goal.returns
returns c = lasts StatusesStay past.statuses_stay
