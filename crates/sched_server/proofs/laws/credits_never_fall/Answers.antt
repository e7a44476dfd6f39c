use Rattle.past_laws.proofs.Holds as past
use Rattle.sched_machine.specs.Decisions.{CreditsStay}
use Rattle.sched_server.proofs.Lasting.{lasts}
use Rattle.sched_server.proofs.laws.credits_never_fall.Goals as goal

pub returns : goal.returns
returns c = lasts CreditsStay past.credits_never_fall
