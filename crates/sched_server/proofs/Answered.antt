-- What a message asks for says something to the scheduler, which is served.
use Rattle.std.proofs.Common.{◌≡◌, ℕ, List, refl, sym, ◌∙◌, ap, subst}
use Rattle.std.specs.Prelude.{Result, Ok, Err, IfOk}
use Rattle.http_messages.specs.Deciding.{Asked}
use Rattle.http_messages.specs.Deciding as asks
use Rattle.http_messages.specs.Meaning.{message_seen}
use Rattle.http_messages.specs.declared.message.Message.{Message}
use Rattle.rpc_records.specs.declared.fault.Fault.{Fault}
use Rattle.sched_book.specs.declared.desk.Unavailable.{Unavailable}
use Rattle.sched_book.specs.declared.rows.Rows.{Rows}
use Rattle.stores.specs.Held.{Held}
use Rattle.pasts.specs.Messages.{Said, Import, heard_now}
use Rattle.pasts.specs.declared.answer.AnswerContent.{AnswerContent}
use Rattle.stores.specs.declared.kind.Kind.{Kind}
use Rattle.message_engine.specs.Imports.{ReadsInThisEra}
use Rattle.message_engine.specs.Stores.{ServesIn}
use Rattle.sched_server.specs.Meanings.{SaysInThisEra}

-- a message of a known form says what that form says
pub says_so : (m form : Message) (said : Said) → m ≡ form → SaysInThisEra (message_seen form) said → SaysInThisEra (message_seen m) said
says_so m form said is says = let P : Message → Type 0 = λ x. SaysInThisEra (message_seen x) said in subst P (sym is) says

-- and is served as such
pub known_serves : (m form : Message) (said : Said) (now : ℕ) (old new : Held)
    (r : Result AnswerContent Unavailable) → m ≡ form → SaysInThisEra (message_seen form) said
    → IfOk r (λ a. ServesIn (heard_now now said) a old new)
    → IfOk r (λ a. (s : Said) × SaysInThisEra (message_seen m) s × ServesIn (heard_now now s) a old new)
known_serves m form said now old new (Ok a) is says serves = (said, says_so m form said is says, serves)
known_serves m form said now old new (Err e) is says serves = tt

-- what holds at every moment holds at this one
pub at_moment : (P : ℕ → AnswerContent → Type 0) (now : ℕ) (r : Result AnswerContent Unavailable) → IfOk r (λ a. (t : ℕ) → P t a) → IfOk r (P now)
at_moment P now (Ok a) all = all now
at_moment P now (Err e) all = tt

-- an import says what its text reads as
pub import_says : (m form : Message) (kind : Kind) (batch text : List ℕ) (read : Result Rows Fault)
    → m ≡ form → message_seen form ≡ asks.import kind batch text → ReadsInThisEra kind text read → SaysInThisEra (message_seen m) (Import kind batch text read)
import_says m form kind batch text read is asks_for reads =
    let P : Asked → Type 0 = λ asked. SaysInThisEra asked (Import kind batch text read) in
    subst P (sym (ap message_seen is ∙ asks_for)) (read, reads, refl)

-- and is served as such
pub import_serves : (m form : Message) (kind : Kind) (batch text : List ℕ) (now : ℕ) (old new : Held)
    (r : Result AnswerContent Unavailable) → m ≡ form → message_seen form ≡ asks.import kind batch text
    → IfOk r (λ a. (read : Result Rows Fault) × ReadsInThisEra kind text read
    × ServesIn (heard_now now (Import kind batch text read)) a old new)
    → IfOk r (λ a. (s : Said) × SaysInThisEra (message_seen m) s × ServesIn (heard_now now s) a old new)
import_serves m form kind batch text now old new (Ok a) is asks_for serves =
    (Import kind batch text serves.0, import_says m form kind batch text serves.0 is asks_for serves.1, serves.2)
import_serves m form kind batch text now old new (Err e) is asks_for serves = tt
