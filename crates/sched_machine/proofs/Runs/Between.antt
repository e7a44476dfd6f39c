-- What holds through each step of a run holds between any two of its worlds.
use Rattle.std.proofs.Common.{ℕ, zero, suc, ◌≤◌, List, [], ◌∷◌, length, arith}
use Rattle.sched_book.specs.Sound.{Sound}
use Rattle.sched_book.specs.Step.{Step, Trace}
use Rattle.sched_book.specs.declared.machine.Answered.{Answered}
use Rattle.sched_book.specs.declared.machine.Call.{Call}
use Rattle.sched_book.specs.declared.world.World.{World}
use Rattle.sched_machine.specs.Laws.{AreCallsInLimits}
use Rattle.sched_machine.specs.Runs.{HoldsInRuns, world_after}
use Rattle.sched_machine.proofs.Moves.Sound.{step_keeps_sound}

-- R holds of a world and itself, through two parts in turn, and through each step from a sound world
module _ (R : World → World → Type 0) (self : (w : World) → R w w) (chain : (u v w : World) → R u v → R v w → R u w)
    (step : (w after : World) (c : Call) (now : ℕ) (answer : Answered) → Sound w → Step w c now after answer → R w after) where
  pub from_first : (w : World) (calls : List (Call × ℕ)) (turns : List (Answered × World)) → Sound w → AreCallsInLimits calls → Trace w calls turns
      → (j : ℕ) → j ≤ length turns → R w (world_after w turns j)
  from_first w calls turns sound limits trace zero within = self w
  from_first w [] [] sound limits trace (suc j) within = absurd (omega arith)
  from_first w [] (t ∷ ts) sound limits trace (suc j) within = absurd trace
  from_first w (e ∷ es) [] sound limits trace (suc j) within = absurd trace
  from_first w (e ∷ es) (t ∷ ts) sound limits trace (suc j) within =
      chain w t.1 (world_after t.1 ts j) (step w t.1 e.0 e.1 t.0 sound trace.0)
      (from_first t.1 es ts (step_keeps_sound w t.1 e.0 e.1 t.0 sound limits.0 limits.1 trace.0) limits.2 trace.1 j (omega arith))

  pub holds_in_runs : HoldsInRuns R
  holds_in_runs w calls turns sound limits trace i zero less within = absurd (omega arith)
  holds_in_runs w calls turns sound limits trace zero (suc j) less within = from_first w calls turns sound limits trace (suc j) within
  holds_in_runs w [] [] sound limits trace (suc i) (suc j) less within = absurd (omega arith)
  holds_in_runs w [] (t ∷ ts) sound limits trace (suc i) (suc j) less within = absurd trace
  holds_in_runs w (e ∷ es) [] sound limits trace (suc i) (suc j) less within = absurd trace
  holds_in_runs w (e ∷ es) (t ∷ ts) sound limits trace (suc i) (suc j) less within =
      holds_in_runs t.1 es ts (step_keeps_sound w t.1 e.0 e.1 t.0 sound limits.0 limits.1 trace.0) limits.2 trace.1 i j (omega arith) (omega arith)
