use Rattle.past_laws.proofs.Holds as past
use Rattle.sched_machine.specs.Decisions.{CanonicalsStay}
use Rattle.sched_server.proofs.Lasting.{lasts}
use Rattle.sched_server.proofs.laws.canonicals_stay.Goals as goal

pub returns : goal.returns
returns c = lasts CanonicalsStay past.canonicals_stay
