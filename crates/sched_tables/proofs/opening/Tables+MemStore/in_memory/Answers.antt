use Rattle.sqlite.specs.Steps.{over_memory}
use Rattle.stores.specs.Held.{IsNew}
use Rattle.sched_tables.specs.Held.{IsHonest}
use Rattle.sched_tables.specs.Views.{state_of, held_of, AreKept}
use Rattle.sched_tables.proofs.Memory.{without_premise}
use Rattle.sched_tables.proofs.Refusals.{unavailable_alone}
use Rattle.sched_tables.proofs.opening.«Tables+MemStore».in_memory.Goals as goal

pub returns-clause-open : goal.returns-clause-open
returns-clause-open c = without_premise c.create.result (λ t. IsHonest (state_of over_memory t)) c.create.ensures.open

pub returns-clause-held : goal.returns-clause-held
returns-clause-held c = without_premise c.create.result (AreKept over_memory) c.create.ensures.held

pub returns-clause-new : goal.returns-clause-new
returns-clause-new c = without_premise c.create.result (λ t. IsNew c.args.settings.now (held_of over_memory t)) c.create.ensures.new

pub returns-clause-unavailable : goal.returns-clause-unavailable
returns-clause-unavailable c = unavailable_alone c.create.result (λ other. other c.in_ok-conn.ensures.empty.2) c.create.ensures.taken c.create.ensures.never_bad c.create.ensures.never_old
