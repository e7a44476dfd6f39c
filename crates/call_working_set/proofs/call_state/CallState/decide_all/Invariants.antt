use Rattle.std.proofs.Common.{◌≡◌}
use Rattle.sched_book.specs.declared.world.World.{World}
use Rattle.call_working_set.specs.WorkingSets.{IsCallStateOf}
use Rattle.call_working_set.proofs.call_state.CallState.decide_all.Given as goal

-- so far the call state is of the same calls
abbrev pub invariant-loop-unit : goal.invariant-loop-unit
invariant-loop-unit l = record {
  call_state : (w : World) → IsCallStateOf w l.fn.self → IsCallStateOf w l.self;
  edits : l.self.edits ≡ l.fn.self.edits;
}
