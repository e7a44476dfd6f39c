use Rattle.sched_server.proofs.Lasting.{all_stays_over_stops}
use Rattle.sched_server.proofs.laws.all_stays_over_stops.Goals as goal

pub returns : goal.returns
returns c = all_stays_over_stops
