-- Rule. Runs of the job machine over messages, and what is kept of them. A run has the newest turn first. (This project's own: the machine
-- hears each message once, and no number of a call decides anything in it.)
use Rattle.std.specs.Prelude.{◌≡◌, ℕ, ◌≤◌, List, [], ◌∷◌, map, Option, None, Ok}
use Rattle.reply_register.specs.declared.kept.Kept.{Kept}
use Rattle.reply_register.specs.declared.key.Key.{Key}
use Rattle.sched_book.specs.Calls.{IsCallInLimits}
use Rattle.sched_book.specs.Limits.{last_moment}
use Rattle.sched_book.specs.Step.{Step, empty_world}
use Rattle.sched_book.specs.declared.machine.Answered.{Answered}
use Rattle.sched_book.specs.declared.machine.Call.{Call}
use Rattle.sched_book.specs.declared.machine.Call.TheVariants as call
use Rattle.sched_book.specs.declared.settings.Settings.{Settings}
use Rattle.sched_book.specs.declared.world.World.{World}
use Rattle.pasts.specs.Answers.{body_of, kept_after, batch_after}
use Rattle.pasts.specs.Messages.{Said, Rpc, Import, Tick, Message}
use Rattle.stores.specs.declared.batch.KeptBatch.{KeptBatch}
use Rattle.stores.specs.declared.kind.Kind.{Kind}

-- a message says this call of the machine; the step decides who calls
abbrev pub SaysCall : Said → Call → Type 0
SaysCall (Rpc request) (call.Rpc caller r) = r ≡ request
SaysCall (Import kind batch text read) (call.Import new) = read ≡ Ok new
SaysCall Tick call.Tick = Unit {0}
SaysCall said c = ⊥

-- what the machine hears is within limits
pub record IsInLimits (c : Call) (now : ℕ) : Type 0 where
  pub request : IsCallInLimits c
  pub moment : now ≤ last_moment

-- A message, its call, the machine's answer and the world after it.
pub record Turn : Type 0 where
  pub message : Message
  pub call : Call
  pub answered : Answered
  pub after : World

-- the body of a turn's answer
abbrev pub turn_body : Turn → List ℕ
turn_body turn = body_of turn.answered turn.message.said

-- the world after these turns
abbrev pub world_of_run : Settings → List Turn → World
world_of_run s [] = empty_world s
world_of_run s (turn ∷ older) = turn.after

abbrev pub messages_of : List Turn → List Message
messages_of turns = map (λ (turn : Turn). turn.message) turns

-- A turn is a step of the machine from the world before it, within limits.
pub record IsTurn (s : Settings) (turn : Turn) (older : List Turn) : Type 0 where
  pub is_call : SaysCall turn.message.said turn.call
  pub limits : IsInLimits turn.call turn.message.now
  pub step : Step (world_of_run s older) turn.call turn.message.now turn.after turn.answered

-- what is kept of a key: its last calls in the run, the last one first
abbrev pub kept_of : List Turn → Key → List Kept
kept_of [] key = []
kept_of (turn ∷ older) key = kept_after turn.message.era key turn.message.said (turn_body turn) (kept_of older key)

-- what is kept of a batch
abbrev pub batch_of : List Turn → Kind → List ℕ → Option KeptBatch
batch_of [] kind batch = None
batch_of (turn ∷ older) kind batch = batch_after kind batch turn.message.said (turn_body turn) (batch_of older kind batch)
