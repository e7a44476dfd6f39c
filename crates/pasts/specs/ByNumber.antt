-- Rule. Calls that are kept by the number of their host. (This project's own: tables keep them in this way.)
use Rattle.std.specs.Prelude.{◌≡◌, ℕ, ◌<◌, List, [], length, Option, Some, None}
use Rattle.reply_register.specs.declared.kept.Kept.{Kept}
use Rattle.reply_register.specs.declared.key.Key.{Key}
use Rattle.sched_book.specs.Sound.{Sound}
use Rattle.sched_book.specs.Step.{Step, host_number}
use Rattle.sched_book.specs.declared.machine.Answered.{Answered}
use Rattle.sched_book.specs.declared.machine.Call.{Call}
use Rattle.sched_book.specs.declared.machine.Call.TheVariants as call
use Rattle.sched_book.specs.declared.world.World.{World}
use Rattle.stores.specs.Held.{Calls, put_call}
use Rattle.pasts.specs.Answers.{body_of, kept_call, kept_after}
use Rattle.pasts.specs.Leaves.{host_of_key}
use Rattle.pasts.specs.Messages.{Said}
use Rattle.pasts.specs.Runs.{SaysCall}

-- what is kept at a number; nothing if there is no number
abbrev pub kept_at : Calls → Option ℕ → List Kept
kept_at kept None = []
kept_at kept (Some number) = kept number

-- what is kept of a key
abbrev pub calls_by_number : World → Calls → Key → List Kept
calls_by_number w kept key = kept_at kept (host_of_key w key)

-- calls are kept only of hosts that exist
abbrev pub AreOfHosts : World → Calls → Type 0
AreOfHosts w kept = (host : ℕ) → length w.hosts < host → kept host ≡ []

-- a call with this body is put in front of what is kept of its host
abbrev pub numbered_after : ℕ → World → Call → List ℕ → Calls → Calls
numbered_after era w (call.Rpc c r) body kept = put_call era (host_number w c) (kept_call r body) kept
numbered_after era w (call.Import new) body kept = kept
numbered_after era w call.Tick body kept = kept

-- after a step, the calls kept by number are those kept by key, and they are of hosts that exist
abbrev pub KeptByNumber : Type 0
KeptByNumber =
    (w after : World) (said : Said) (c : Call) (now : ℕ) (answered : Answered) → Sound w → SaysCall said c → Step w c now after answered
    → (era : ℕ) (kept : Calls) → AreOfHosts w kept
    → AreOfHosts after (numbered_after era w c (body_of answered said) kept)
    × ((key : Key)
    → calls_by_number after (numbered_after era w c (body_of answered said) kept) key
    ≡ kept_after era key said (body_of answered said) (calls_by_number w kept key))
