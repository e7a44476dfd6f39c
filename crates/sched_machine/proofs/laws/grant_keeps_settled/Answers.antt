use Rattle.sched_machine.proofs.Rows.Grant.{grant_keeps_settled}
use Rattle.sched_machine.proofs.laws.grant_keeps_settled.Goals as goal

pub returns : goal.returns
returns c = grant_keeps_settled
