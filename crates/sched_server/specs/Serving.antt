-- Promise. What a service does over several messages. (This project's own.)
use Rattle.std.specs.Prelude.{◌≡◌, ◌⊎◌, ℕ, List, [], ◌∷◌, ◌++◌, Option, Some, None}
use Rattle.std.specs.Io.KnownBytes.{Consumes}
use Rattle.http_responses.specs.Answers.{answer_bytes}
use Rattle.http_responses.specs.declared.answer.Answer.{Answer}
use Rattle.http_responses.specs.declared.answer.Answer.TheVariants as answer
use Rattle.stores.specs.Acting.{Parts}
use Rattle.stores.specs.Held.{Held}
use Rattle.sched_server.specs.Arrivals.{Came, StoreStandsFor, HandledInTurn, HandledOverStops}
use Rattle.sched_server.specs.Handled.{HandledAs}
use Rattle.sched_server.specs.Views.{store_of, operator_key_of}
use Rattle.sched_server.specs.declared.service.Service.{Service}

-- A service agrees with the arrivals if its store does. While the store is open, the service's key is the operator's.
pub record ServiceStandsFor {S : Type 0} (store : Parts S) (key upgrade_points : List ℕ) (before : List Came) (service : Service S) : Type 0 where
  pub keyed : store.honest (store_of service) → key ≡ operator_key_of service
  pub stands : StoreStandsFor store key upgrade_points before (store_of service)

-- the answer is a response, and not unavailable
abbrev pub IsResponse : Answer → Type 0
IsResponse answer.Unavailable = ⊥
IsResponse (answer.Response response) = Unit {0}

-- one of these messages got a response
abbrev pub HasResponse : List Came → Type 0
HasResponse [] = ⊥
HasResponse (c ∷ came) = IsResponse c.answer ⊎ HasResponse came

-- A service handled these messages, the newest first, with these answers. Nothing else changed its store. `Handled` says what that makes of
-- what the store held.
pub record Serves {S : Type 0} (store : Parts S) (came : List Came) (Handled : List ℕ → Held → Held → Type 0) (old new : Service S) : Type 0 where
  pub key : operator_key_of new ≡ operator_key_of old
  pub was_clean : store.clean (store_of new) → store.clean (store_of old)
  pub was_honest : store.honest (store_of new) → store.honest (store_of old)
  -- if one of them got a response, the store was open before
  pub was_open : store.clean (store_of new) → HasResponse came → store.honest (store_of old)
  pub stays_kept : store.honest (store_of new) → store.well_kept (store_of old) → store.well_kept (store_of new)
  pub handled : store.honest (store_of new) → store.well_kept (store_of old) → Handled (operator_key_of old) (store.holds (store_of old)) (store.holds (store_of new))
  -- What a stop may leave is what it could leave before, or what some of these messages made of what was held, the last of them with some answer.
  pub left : (h : Held) → store.may_leave (store_of new) h
      → store.may_leave (store_of old) h
      ⊎ (store.honest (store_of old)
      × (store.well_kept (store_of old) → (stretches : List (List Came)) × HandledOverStops (operator_key_of old) stretches (store.holds (store_of old)) h))
  -- a service that agreed with some arrivals agrees with these messages in front of them
  pub stands : (key upgrade_points : List ℕ) (before : List Came) → ServiceStandsFor store key upgrade_points before old → store.clean (store_of new)
      → ServiceStandsFor store key upgrade_points (came ++ before) new
  -- if the store could be opened again, it still can be, as it is and as a stop may leave it
  pub reopens : (store.honest (store_of old) → store.well_kept (store_of old)) → store.reopens (store_of old) → store.reopens (store_of new)

-- It handled one message.
abbrev pub ServesOne : {S : Type 0} → Parts S → Came → Service S → Service S → Type 0
ServesOne store c = Serves store (c ∷ []) (λ key. HandledAs key c.arrival.bytes c.arrival.now c.answer)

-- It handled several, one after the other: each met what the one before it had left.
abbrev pub ServesInTurn : {S : Type 0} → Parts S → List Came → Service S → Service S → Type 0
ServesInTurn store came = Serves store came (λ key. HandledInTurn key came)

-- It handled one message of these bytes at this moment, with an answer of this text.
pub record ServesMessage {S : Type 0} (store : Parts S) (now : ℕ) (bytes text : List ℕ) (old new : Service S) : Type 0 where
  pub answer : Answer
  pub text_is : text ≡ answer_bytes answer
  pub serves : ServesOne store (record { arrival = record { now = now; bytes = bytes }; answer = answer }) old new

-- It handled one message at this moment, over a reader and a writer. Its bytes are those that the reader lost, if they are known. `Writes` says
-- what was written of the answer's text.
pub record ServesStream {S : Type 0} (store : Parts S) (now : ℕ) (before after : Option (List ℕ)) (Writes : List ℕ → Type 0) (old new : Service S) : Type 0 where
  pub bytes : List ℕ
  pub text : List ℕ
  pub read : Consumes before after bytes
  pub written : Writes text
  pub serves : ServesMessage store now bytes text old new

-- It served a connection. At most one message was handled, and if none was, the service is as it was.
abbrev pub ServesConnection : {S : Type 0} → Parts S → Option Came → Service S → Service S → Type 0
ServesConnection store None old new = new ≡ old
ServesConnection store (Some c) old new = ServesOne store c old new

-- the messages of several connections
abbrev pub messages_of : List (Option Came) → List Came
messages_of [] = []
messages_of (None ∷ connections) = messages_of connections
messages_of (Some came ∷ connections) = came ∷ messages_of connections
