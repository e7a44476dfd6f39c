-- Rule. Laws of pasts and runs. (This project's own.)
use Rattle.std.specs.Prelude.{◌≡◌, ℕ, ◌<◌, true, List, [], ◌∷◌, ◌++◌, length, is_none}
use Rattle.reply_register.specs.Keys.{same_key}
use Rattle.reply_register.specs.declared.key.Key.{Key}
use Rattle.rpc_records.specs.declared.request.Request.{Request}
use Rattle.sched_book.specs.Imports.{shelf_of}
use Rattle.sched_book.specs.Places.{place_where}
use Rattle.sched_book.specs.Step.{Trace, empty_world}
use Rattle.sched_book.specs.declared.machine.Answered.{Answered}
use Rattle.sched_book.specs.declared.machine.Call.{Call}
use Rattle.sched_book.specs.declared.settings.Settings.{Settings}
use Rattle.sched_book.specs.declared.world.World.{World}
use Rattle.pasts.specs.FirstHeard.{rows_of, keys_of, is_first_heard, first_heard}
use Rattle.pasts.specs.Leaves.{host_of_key}
use Rattle.pasts.specs.Many.{ServesAll, followed}
use Rattle.pasts.specs.Messages.{Said, Rpc, Message, key_of}
use Rattle.pasts.specs.Runs.{Turn, IsInLimits, messages_of}
use Rattle.pasts.specs.Stands.{Heard, Past, Tables, Same, StandsBy, Stands, Serves, then_heard, messages_in, new_tables, told_by}
use Rattle.pasts.specs.declared.answer.AnswerContent.{AnswerContent}

-- ---- the theorem

-- new tables agree with the empty past
abbrev pub NewTablesStand : Type 0
NewTablesStand = (s : Settings) (t : Tables) → Same t (new_tables s) → Stands t []

-- tables that agree with a past agree with it and one message more, once they served that message
abbrev pub StandsCarried : Type 0
StandsCarried =
    (old new : Tables) (m : Message) (answer : AnswerContent) → Serves old m answer new → (past : Past) → Stands old past → Stands new (then_heard past m answer)

-- the same for many messages
abbrev pub StandsCarriedByAll : Type 0
StandsCarriedByAll =
    (old new : Tables) (more : List Heard) → ServesAll old more new → (past : Past) → Stands old past → Stands new (followed past more)

-- ---- what agreeing with a past says

-- a message is first heard after the past exactly if the tables have no answer for it without a step
abbrev pub FirstHeardIsToldNothing : Type 0
FirstHeardIsToldNothing =
    (t : Tables) (past : Past) → Stands t past → (said : Said)
    → is_first_heard t.world.settings (first_heard t.world.settings (messages_in past)) said ≡ is_none (told_by t said)

-- the run is over just the first-heard messages of the past
abbrev pub RunsTheFirstHeard : Type 0
RunsTheFirstHeard =
    (t : Tables) (past : Past) (turns : List Turn) → StandsBy t past turns → messages_of turns ≡ first_heard t.world.settings (messages_in past)

-- The imported rows are those of the first-heard imports, in their order. The number of a host is the place of its key among the keys of
-- the first-heard calls.
pub record IsOfFirstHeard (w : World) (messages : List Message) : Type 0 where
  pub rows : shelf_of w ≡ rows_of messages
  pub hosts : (key : Key) → host_of_key w key ≡ place_where (same_key key) (keys_of messages)
  pub host_count : length w.hosts ≡ length (keys_of messages)

abbrev pub RowsAreOfFirstHeard : Type 0
RowsAreOfFirstHeard =
    (t : Tables) (past : Past) → Stands t past → IsOfFirstHeard t.world (first_heard t.world.settings (messages_in past))

-- ---- first-heard messages

-- the first-heard messages of a past begin with those of each shorter one
abbrev pub FirstHeardBegins : Type 0
FirstHeardBegins =
    (s : Settings) (newer older : List Message) → (later : List Message) × (first_heard s (newer ++ older) ≡ later ++ first_heard s older)

-- the numbers of a key's first-heard calls rise: no call is first heard twice, and none after a later one
abbrev pub NumbersRise : Type 0
NumbersRise =
    (s : Settings) (messages newer between oldest : List Message) (late early : Message) (later earlier : Request)
    → first_heard s messages ≡ newer ++ late ∷ (between ++ early ∷ oldest) → late.said ≡ Rpc later → early.said ≡ Rpc earlier
    → same_key (key_of later) (key_of earlier) ≡ true → earlier.rpc_seqno < later.rpc_seqno

-- ---- one run

-- the calls and the worlds of a run, the oldest first
abbrev pub calls_of_run : List Turn → List (Call × ℕ)
calls_of_run [] = []
calls_of_run (turn ∷ older) = calls_of_run older ++ (turn.call, turn.message.now) ∷ []

abbrev pub worlds_in : List Turn → List (Answered × World)
worlds_in [] = []
worlds_in (turn ∷ older) = worlds_in older ++ (turn.answered, turn.after) ∷ []

abbrev pub AreInLimits : List (Call × ℕ) → Type 0
AreInLimits [] = Unit {0}
AreInLimits (e ∷ es) = IsInLimits e.0 e.1 × AreInLimits es

-- the world at the end of a run from a world
abbrev pub last_world : World → List (Answered × World) → World
last_world w [] = w
last_world w (t ∷ ts) = last_world t.1 ts

-- These calls are a run from one world to another, and are within limits.
pub record IsRunTo (old : World) (calls : List (Call × ℕ)) (worlds : List (Answered × World)) (new : World) : Type 0 where
  pub trace : Trace old calls worlds
  pub limits : AreInLimits calls
  pub last : last_world old worlds ≡ new

-- the run of tables that agree with a past is one run of the job machine, from the world of new tables to the stored one
abbrev pub IsOneRun : Type 0
IsOneRun =
    (t : Tables) (past : Past) (turns : List Turn) → StandsBy t past turns
    → IsRunTo (empty_world t.world.settings) (calls_of_run turns) (worlds_in turns) t.world

-- some run leads from one world to another
abbrev pub RunsTo : World → World → Type 0
RunsTo old new = (calls : List (Call × ℕ)) × (worlds : List (Answered × World)) × IsRunTo old calls worlds new

-- many messages are one run from the world before them to the world after them
abbrev pub ServesByOneRun : Type 0
ServesByOneRun = (old new : Tables) (more : List Heard) → ServesAll old more new → RunsTo old.world new.world
