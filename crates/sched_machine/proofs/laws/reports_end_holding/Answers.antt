use Rattle.sched_machine.proofs.Held.Settled.{reports_end_holding}
use Rattle.sched_machine.proofs.laws.reports_end_holding.Goals as goal

pub returns : goal.returns
returns c = reports_end_holding
