-- Rule. What holds of parts of a run: of the calls between two of its worlds.
use Rattle.std.specs.Prelude.{◌≡◌, ◌⊎◌, ℕ, suc, ◌<◌, ◌≤◌, true, List, length, Some, slice_get}
use Rattle.rpc_records.specs.declared.reply.Reply.{Reply}
use Rattle.rpc_records.specs.declared.request.Request.{Request}
use Rattle.sched_book.specs.Sound.{Sound}
use Rattle.sched_book.specs.Step.{Trace, deadline_at}
use Rattle.sched_book.specs.declared.instance.Owner.{Owner}
use Rattle.sched_book.specs.declared.instance.Place.{Place}
use Rattle.sched_book.specs.declared.machine.Answered.{Answered}
use Rattle.sched_book.specs.declared.machine.Answered.TheVariants as answered
use Rattle.sched_book.specs.declared.machine.Call.{Call}
use Rattle.sched_book.specs.declared.machine.Call.TheVariants as call
use Rattle.sched_book.specs.declared.machine.Caller.{Caller}
use Rattle.sched_book.specs.declared.world.World.{World}
use Rattle.sched_machine.specs.Held.{IsHeldByName}
use Rattle.sched_machine.specs.Laws.{AreCallsInLimits}
use Rattle.sched_machine.specs.Runs.{owner_at, world_after, IsSentAgain}

-- the call after the first n turns of a run sends the instance at a place again to its owner, the host that calls
abbrev pub IsSentAgainAfter : World → List (Call × ℕ) → List (Answered × World) → ℕ → Place → Owner → Type 0
IsSentAgainAfter w calls turns n p o = (e : Call × ℕ) × (slice_get calls n ≡ Some e) × IsSentAgain (world_after w turns n) e.0 p o

-- between any two worlds of a run the deadline of an instance that was given to a host stays, or some call between them
-- sends it again
abbrev pub DeadlinesMoveByResendsInRuns : Type 0
DeadlinesMoveByResendsInRuns = (w : World) (calls : List (Call × ℕ)) (turns : List (Answered × World)) → Trace w calls turns
    → (i j : ℕ) → i < j → j ≤ length turns → (p : Place) (o : Owner) → owner_at (world_after w turns i) p ≡ Some o
    → (deadline_at (world_after w turns j) p ≡ deadline_at (world_after w turns i) p)
    ⊎ ((n : ℕ) × (i ≤ n) × (n < j) × IsSentAgainAfter w calls turns n p o)

-- The call after the first n turns of a run got a reply. After it its host holds exactly what is listed or named.
pub record IsInSightAfter (w : World) (turns : List (Answered × World)) (n : ℕ) (c : Caller) (r : Request) (names : List (List ℕ)) : Type 0 where
  pub reply : Reply
  pub turn : slice_get turns n ≡ Some (answered.Rpc reply, world_after w turns (suc n))
  pub held : IsHeldByName (world_after w turns n) (world_after w turns (suc n)) c r names reply

-- if lost jobs are sent again, this holds after each call of a run that lists names
abbrev pub HoldsWhatIsListedOrNamedInRuns : Type 0
HoldsWhatIsListedOrNamedInRuns = (w : World) (calls : List (Call × ℕ)) (turns : List (Answered × World)) → Sound w → AreCallsInLimits calls
    → Trace w calls turns → w.settings.resend_lost_results ≡ true → (n now : ℕ) (c : Caller) (r : Request) (names : List (List ℕ))
    → slice_get calls n ≡ Some (call.Rpc c r, now) → r.other_results ≡ Some names → IsInSightAfter w turns n c r names
