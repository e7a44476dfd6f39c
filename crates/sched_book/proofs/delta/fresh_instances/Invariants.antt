use Rattle.std.proofs.Common.{◌≡◌}
use Rattle.std.specs.Prelude.{replicate}
use Rattle.sched_book.specs.Settle.{fresh}
use Rattle.sched_book.proofs.delta.fresh_instances.Given as goal

abbrev pub invariant-loop : goal.invariant-loop
invariant-loop l = l.instances ≡ replicate l.counter fresh
