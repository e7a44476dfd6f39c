use Rattle.past_laws.proofs.Holds as past
use Rattle.sched_machine.specs.Decisions.{VerdictsStay}
use Rattle.sched_server.proofs.Lasting.{lasts}
use Rattle.sched_server.proofs.laws.verdicts_stay.Goals as goal

pub returns : goal.returns
returns c = lasts VerdictsStay past.verdicts_stay
