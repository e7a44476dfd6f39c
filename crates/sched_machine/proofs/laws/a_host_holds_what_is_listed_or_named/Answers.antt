use Rattle.sched_machine.proofs.Held.Named.{a_host_holds_what_is_listed_or_named}
use Rattle.sched_machine.proofs.laws.a_host_holds_what_is_listed_or_named.Goals as goal

pub returns : goal.returns
returns c = a_host_holds_what_is_listed_or_named
