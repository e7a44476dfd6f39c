-- Promise. What it means that tables agree with a past, and with the one run of the machine over its first-heard messages. What one message
-- does to tables. (This project's own.)
use Rattle.std.specs.Prelude.{◌≡◌, ◌⊎◌, ℕ, true, false, List, [], ◌∷◌, map, Option, Some, None}
use Rattle.reply_register.specs.declared.kept.Kept.{Kept}
use Rattle.reply_register.specs.declared.key.Key.{Key}
use Rattle.sched_book.specs.Step.{Step, empty_world}
use Rattle.sched_book.specs.declared.machine.Answered.{Answered}
use Rattle.sched_book.specs.declared.machine.Call.{Call}
use Rattle.sched_book.specs.declared.settings.Settings.{Settings}
use Rattle.sched_book.specs.declared.world.World.{World}
use Rattle.pasts.specs.Answers.{body_of, kept_after, batch_after}
use Rattle.pasts.specs.FirstHeard.{is_first_heard, first_heard}
use Rattle.pasts.specs.Messages.{Said, Message}
use Rattle.pasts.specs.Runs.{Turn, SaysCall, IsInLimits, IsTurn, turn_body, world_of_run, kept_of, batch_of}
use Rattle.pasts.specs.Told.{told}
use Rattle.pasts.specs.declared.answer.AnswerContent.{AnswerContent}
use Rattle.pasts.specs.declared.answer.AnswerContent.TheVariants.{Good}
use Rattle.stores.specs.declared.batch.KeptBatch.{KeptBatch}
use Rattle.stores.specs.declared.kind.Kind.{Kind}

-- A message with its answer. A past has the newest first. A message that was lost, or that was unavailable for lack of memory, changed
-- nothing and is not in it.
pub record Heard : Type 0 where
  pub message : Message
  pub answer : AnswerContent

abbrev pub Past : Type 0
Past = List Heard

abbrev pub then_heard : Past → Message → AnswerContent → Past
then_heard past message answer = record { message = message; answer = answer } ∷ past

abbrev pub messages_in : Past → List Message
messages_in past = map (λ (h : Heard). h.message) past

-- What tables hold: the world, the kept calls of each key, and the kept imports.
pub record Tables : Type 0 where
  pub world : World
  pub calls : Key → List Kept
  pub batches : Kind → List ℕ → Option KeptBatch

-- two tables hold the same
pub record Same (a b : Tables) : Type 0 where
  pub world : a.world ≡ b.world
  pub calls : (key : Key) → a.calls key ≡ b.calls key
  pub batches : (kind : Kind) (batch : List ℕ) → a.batches kind batch ≡ b.batches kind batch

-- new tables with these settings
abbrev pub new_tables : Settings → Tables
new_tables s = record { world = empty_world s; calls = λ key. []; batches = λ kind batch. None }

-- ---- a past

-- A first-heard message makes one turn after the older ones, and its answer is that turn's.
pub record MakesTurn (s : Settings) (h : Heard) (turn : Turn) (older : List Turn) : Type 0 where
  pub message : turn.message ≡ h.message
  pub step : IsTurn s turn older
  pub answer : h.answer ≡ Good (turn_body turn)

-- A run answers a past. If the newest message is first heard, the newest turn is its own. If not, its answer follows from the world of the
-- run and what is kept.
abbrev pub Answers : Settings → Past → List Turn → Type 0
Answers s [] turns = turns ≡ []
Answers s (h ∷ past) turns =
    let first = is_first_heard s (first_heard s (messages_in past)) h.message.said in
    ((first ≡ true) × (turn : Turn) × (older : List Turn) × (turns ≡ turn ∷ older) × MakesTurn s h turn older × Answers s past older)
    ⊎ ((first ≡ false) × (told (world_of_run s turns) (kept_of turns) (batch_of turns) h.message.said ≡ Some h.answer) × Answers s past turns)

-- Tables agree with a past, with a run that answers it. Their world is the one that the run leaves, and for each key and batch they keep
-- what it kept.
pub record StandsBy (t : Tables) (past : Past) (turns : List Turn) : Type 0 where
  pub answers : Answers t.world.settings past turns
  pub world : t.world ≡ world_of_run t.world.settings turns
  pub calls : (key : Key) → t.calls key ≡ kept_of turns key
  pub batches : (kind : Kind) (batch : List ℕ) → t.batches kind batch ≡ batch_of turns kind batch

-- the same with some run
abbrev pub Stands : Tables → Past → Type 0
Stands t past = (turns : List Turn) × StandsBy t past turns

-- ---- one message

-- the answer to a message that changes nothing; none for a first-heard one
abbrev pub told_by : Tables → Said → Option AnswerContent
told_by t said = told t.world t.calls t.batches said

-- A first-heard message makes one step, and is kept with its answer.
pub record Commits (old : Tables) (m : Message) (answer : AnswerContent) (new : Tables) : Type 0 where
  pub call : Call
  pub answered : Answered
  pub is_call : SaysCall m.said call
  pub limits : IsInLimits call m.now
  pub step : Step old.world call m.now new.world answered
  pub answer_is : answer ≡ Good (body_of answered m.said)
  pub calls : (key : Key) → new.calls key ≡ kept_after m.era key m.said (body_of answered m.said) (old.calls key)
  pub batches : (kind : Kind) (batch : List ℕ) → new.batches kind batch ≡ batch_after kind batch m.said (body_of answered m.said) (old.batches kind batch)

-- a message with such an answer changes nothing
abbrev pub ServesAs : Option AnswerContent → Tables → Message → AnswerContent → Tables → Type 0
ServesAs (Some told) old m answer new = (answer ≡ told) × Same new old
ServesAs None old m answer new = Commits old m answer new

-- what one message does, for any tables
abbrev pub Serves : Tables → Message → AnswerContent → Tables → Type 0
Serves old m answer new = ServesAs (told_by old m.said) old m answer new
