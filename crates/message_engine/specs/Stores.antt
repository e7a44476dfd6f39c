-- Rule. What one message does to a store. (This project's own.)
use Rattle.std.specs.Prelude.{◌≤◌, IsTrue, length}
use Rattle.sched_book.specs.Sound.{Sound}
use Rattle.texts.specs.Words.{is_word}
use Rattle.stores.specs.Held.{Held}
use Rattle.stores.specs.Standing.{MayStand, most_import_bytes}
use Rattle.pasts.specs.ByNumber.{calls_by_number, AreOfHosts}
use Rattle.pasts.specs.Messages.{Message, Said, Rpc, Import, Tick, Read, Refused}
use Rattle.pasts.specs.Stands.{Tables, Serves}
use Rattle.pasts.specs.declared.answer.AnswerContent.{AnswerContent}

-- what a store holds, as tables
abbrev pub tables_by : Held → Tables
tables_by held = record { world = held.world; calls = calls_by_number held.world held.calls; batches = held.batches }

-- The world is sound, and calls are kept only of its hosts.
pub record IsSoundStore (held : Held) : Type 0 where
  pub world : Sound held.world
  pub hosts : AreOfHosts held.world held.calls

-- What a message says may be kept: an import has a word as its name, and its text is not too long.
abbrev pub MayBeSaid : Said → Type 0
MayBeSaid (Import kind batch text read) = IsTrue (is_word batch) × (length text ≤ most_import_bytes)
MayBeSaid (Rpc request) = Unit {0}
MayBeSaid Tick = Unit {0}
MayBeSaid (Read tells) = Unit {0}
MayBeSaid (Refused fault) = Unit {0}

-- What one message does to a sound store. The store stays sound. If what the message says may be kept, a store that could be opened again
-- still can be.
pub record ServesSoundly (m : Message) (answer : AnswerContent) (old new : Held) : Type 0 where
  pub serves : Serves (tables_by old) m answer (tables_by new)
  pub sound : IsSoundStore new
  pub stands : MayBeSaid m.said → MayStand old → MayStand new

abbrev pub ServesIn : Message → AnswerContent → Held → Held → Type 0
ServesIn m answer old new = IsSoundStore old → ServesSoundly m answer old new

-- the message was served, with some answer
abbrev pub IsServed : Message → Held → Held → Type 0
IsServed m old new = (answer : AnswerContent) × ServesIn m answer old new
