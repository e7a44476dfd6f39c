use Rattle.past_laws.proofs.Holds as past
use Rattle.sched_machine.specs.Decisions.{UnitsStay}
use Rattle.sched_server.proofs.Lasting.{lasts}
use Rattle.sched_server.proofs.laws.units_stay.Goals as goal

pub returns : goal.returns
returns c = lasts UnitsStay past.units_stay
