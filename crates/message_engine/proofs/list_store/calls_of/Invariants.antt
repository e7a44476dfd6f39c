use Rattle.std.proofs.Common.{◌≡◌, ◌++◌, drop, map, filter}
use Rattle.std.specs.Prelude.{◌==◌}
use Rattle.message_engine.specs.declared.list_store.HostCall.{HostCall}
use Rattle.message_engine.proofs.list_store.calls_of.Given as goal

-- the calls of the host so far, and those of the host among the rest
abbrev pub invariant-loop-call : goal.invariant-loop-call
invariant-loop-call l =
    l.kept.items ++ map (λ (c : HostCall). c.kept) (filter (λ (c : HostCall). c.host == l.host) (drop l.call-index l.calls))
    ≡ map (λ (c : HostCall). c.kept) (filter (λ (c : HostCall). c.host == l.host) l.calls)
