-- One message of an order, and the messages of connections.
use Rattle.std.proofs.Common.{◌≡◌, ◌⊎◌, ℕ, List, [], ◌∷◌, Option, Some, None, Result, Ok, Err, refl, sym, subst, subst₂, inl, inr}
use Rattle.std.specs.Prelude.{OnOk, IsErrOf}
use Rattle.std.specs.Io.KnownBytes.{Appends}
use Rattle.stores.specs.Acting.{Parts}
use Rattle.http_responses.specs.Answers.{answer_bytes}
use Rattle.http_serving.specs.Streams.{IsWritten, StepsInTurn}
use Rattle.http_serving.specs.declared.fault.IoFault.{IoFault}
use Rattle.http_serving.specs.declared.fault.IoFault.TheVariants.{Read, Write}
use Rattle.http_serving.specs.declared.streams.Sink as sink
use Rattle.http_serving.specs.declared.streams.Source as source
use Rattle.sched_server.specs.Arrivals.{Came}
use Rattle.sched_server.specs.Serving.{ServesStream, ServesConnection}
use Rattle.sched_server.specs.declared.service.Service.{Service}
use Rattle.commands.specs.Messages.{AreOf, ServedSo, IsOne, HasArrived}
use Rattle.commands.specs.Wire.{Carries}
use Rattle.commands.specs.declared.connections.Accepted.{Accepted}
use Rattle.commands.specs.declared.answering.Task.{Task}
use Rattle.commands.specs.declared.answering.Task.TheVariants as task
use Rattle.commands.specs.declared.ending.Failure.{Failure}
use Rattle.commands.specs.declared.ending.Ending.{Ending}
use Rattle.commands.specs.declared.files.Files as files

-- no message was handled, and the task failed
pub none_of : {F : Type 0} (f : files.Ghosts F) (served : ServedSo) → ((port count : ℕ) (why : Failure) → served port count (Err why) []) → (key : List ℕ) (t : Task) (why : Failure)
    → AreOf f served key t (Err why) []
none_of f served none key (task.Serve port count) why = none port count why
none_of f served none key (task.Import kind batch file) why = tt
none_of f served none key (task.Tick at) why = tt
none_of f served none key (task.Statement host) why = tt

-- a message that arrived so is the one of its order
pub one_of : (ended : Result Ending Failure) (c : Came) (now : ℕ) (bytes : List ℕ) (Is : List ℕ → Type 0) → HasArrived now bytes ended c → Is bytes → IsOne ended now Is (c ∷ [])
one_of ended c now bytes Is arrived is = (arrived.now_is, subst Is (sym arrived.bytes_are) is, arrived.ends)

-- ---- connections

module _ {S R W : Type 0} (store : Parts S) (reads : source.Ghosts R) (writes : sink.Ghosts W) (accepted : Accepted R W) (reader : R) (writer : W) (old new : Service S) where
  -- a connection of which a message was handled
  message_carried : (Writes : List ℕ → Type 0)
      → ((text : List ℕ) → Writes text → Appends (writes.held accepted.writer) (writes.held writer) text ⊎ (writes.has_failed writer × IsWritten (writes.held accepted.writer) (writes.held writer) text))
      → ServesStream store accepted.now (reads.left accepted.reader) (reads.left reader) Writes old new
      → (came : Option Came) × Carries reads writes accepted reader writer came × ServesConnection store came old new
  message_carried Writes written done = (
    Some (record { arrival = record { now = accepted.now; bytes = done.bytes }; answer = done.serves.answer }),
    record { read = done.read; moment = refl; written = written (answer_bytes done.serves.answer) (subst Writes done.serves.text_is done.written) },
    done.serves.serves,
  )

  -- what became of a connection, by the result of serving it
  pub connection_carried : (r : Result (Unit {0}) IoFault)
      → OnOk r (ServesStream store accepted.now (reads.left accepted.reader) (reads.left reader) (Appends (writes.held accepted.writer) (writes.held writer)) old new)
      → (IsErrOf r Read → (new ≡ old) × (writer ≡ accepted.writer))
      → (IsErrOf r Read → reads.has_failed reader ⊎ StepsInTurn reads.steps 2000000 accepted.reader reader)
      → (IsErrOf r Write → ServesStream store accepted.now (reads.left accepted.reader) (reads.left reader) (IsWritten (writes.held accepted.writer) (writes.held writer)) old new)
      → (IsErrOf r Write → writes.has_failed writer)
      → (came : Option Came) × Carries reads writes accepted reader writer came × ServesConnection store came old new
  connection_carried (Ok u) ok same failed front stopped = message_carried _ (λ text whole. inl whole) ok
  connection_carried (Err Read) ok same failed front stopped = (None, ((same refl).1, failed refl), (same refl).0)
  connection_carried (Err Write) ok same failed front stopped = message_carried _ (λ text some. inr (stopped refl, some)) (front refl)

module _ {R W : Type 0} (reads : source.Ghosts R) (writes : sink.Ghosts W) where
  -- a connection whose writer was put into another value, and taken out of it
  pub carried_by : (accepted : Accepted R W) (first : W) (reader : R) (last writer : W) (came : Option Came) → first ≡ accepted.writer → writer ≡ last
      → Carries reads writes (record { reader = accepted.reader; writer = first; now = accepted.now }) reader last came → Carries reads writes accepted reader writer came
  carried_by accepted first reader last writer came begins ends carries =
      let from : record { reader = accepted.reader; writer = first; now = accepted.now } ≡ accepted = λ i. record { reader = accepted.reader; writer = begins i; now = accepted.now } in
      subst₂ (λ (a : Accepted R W) (w : W). Carries reads writes a reader w came) from (sym ends) carries
