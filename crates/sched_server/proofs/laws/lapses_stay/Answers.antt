use Rattle.past_laws.proofs.Holds as past
use Rattle.sched_machine.specs.Runs.{LapsesStay}
use Rattle.sched_server.proofs.Lasting.{lasts}
use Rattle.sched_server.proofs.laws.lapses_stay.Goals as goal

pub returns : goal.returns
returns c = lasts LapsesStay past.lapses_stay
