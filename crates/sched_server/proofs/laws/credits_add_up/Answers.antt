use Rattle.past_laws.proofs.Holds as past
use Rattle.sched_machine.specs.Decisions.{CreditsAddUp}
use Rattle.sched_server.proofs.Lasting.{of_what_stands}
use Rattle.sched_server.proofs.laws.credits_add_up.Goals as goal

pub returns : goal.returns
returns c = of_what_stands CreditsAddUp past.credits_add_up
