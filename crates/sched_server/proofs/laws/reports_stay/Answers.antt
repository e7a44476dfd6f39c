use Rattle.past_laws.proofs.Holds as past
use Rattle.sched_machine.specs.Runs.{ReportsStay}
use Rattle.sched_server.proofs.Lasting.{lasts}
use Rattle.sched_server.proofs.laws.reports_stay.Goals as goal

pub returns : goal.returns
returns c = lasts ReportsStay past.reports_stay
