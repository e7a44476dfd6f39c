-- Promise. What goes over the wire: which bytes of a connection were handled, at which moment, and what its client got. (This project's own.)
use Rattle.std.specs.Prelude.{◌≡◌, ◌⊎◌, ◌≤◌, ℕ, List, [], ◌∷◌, Option, Some, None, Result, OnOk, length}
use Rattle.std.specs.Io.KnownBytes.{Appends, Consumes}
use Rattle.http_responses.specs.Answers.{answer_bytes}
use Rattle.http_serving.specs.Streams.{IsWritten, StepsInTurn}
use Rattle.http_serving.specs.declared.streams.Sink as sink
use Rattle.http_serving.specs.declared.streams.Source as source
use Rattle.sched_server.specs.Arrivals.{Came}
use Rattle.sched_server.specs.Serving.{messages_of}
use Rattle.commands.specs.declared.connections.Accepted.{Accepted}
use Rattle.commands.specs.declared.connections.Connections as connections
use Rattle.commands.specs.declared.ending.Ending.{Ending}
use Rattle.commands.specs.declared.ending.Failure.{Failure}

module _ {R W : Type 0} (reads : source.Ghosts R) (writes : sink.Ghosts W) where
  -- The message of a connection was handled. Its bytes are those that the reader lost, and its moment is that of the accept. What the client
  -- got is the text of its answer, or a front of that if a write failed.
  pub record CarriesMessage (accepted : Accepted R W) (reader : R) (writer : W) (c : Came) : Type 0 where
    pub read : Consumes (reads.left accepted.reader) (reads.left reader) c.arrival.bytes
    pub moment : c.arrival.now ≡ accepted.now
    pub written : Appends (writes.held accepted.writer) (writes.held writer) (answer_bytes c.answer)
        ⊎ (writes.has_failed writer × IsWritten (writes.held accepted.writer) (writes.held writer) (answer_bytes c.answer))

  -- It was handled, or it could not be read: then a read failed, or 2,000,000 reads were made, and the client got nothing.
  abbrev pub Carries : Accepted R W → R → W → Option Came → Type 0
  Carries accepted reader writer (Some c) = CarriesMessage accepted reader writer c
  Carries accepted reader writer None = (writer ≡ accepted.writer) × (reads.has_failed reader ⊎ StepsInTurn reads.steps 2000000 accepted.reader reader)

module _ {C R W : Type 0} (steps : connections.Ghosts C R W) (reads : source.Ghosts R) (writes : sink.Ghosts W) where
  -- a connection that was accepted, served and ended
  abbrev pub IsCarried : Option Came → Accepted R W → C → C → Type 0
  IsCarried came accepted old new = (reader : R) × (writer : W) × Carries reads writes accepted reader writer came × steps.ends old reader writer new

  -- one wait for a connection: a client came and was served, or none came
  abbrev pub IsConnection : Option Came → C → C → Type 0
  IsConnection came old new =
      (steps.accepts old None new × (came ≡ None))
      ⊎ ((accepted : Accepted R W) × (mid : C) × steps.accepts old (Some accepted) mid × IsCarried came accepted mid new)

  -- connections one after the other, the newest first
  abbrev pub AreConnections : List (Option Came) → C → C → Type 0
  AreConnections [] old new = new ≡ old
  AreConnections (came ∷ earlier) old new = (mid : C) × AreConnections earlier old mid × IsConnection came mid new

  -- so many connections were served, or fewer if serving failed
  abbrev pub IsServed : {A E : Type 0} → ℕ → Result A E → List (Option Came) → C → C → Type 0
  IsServed count result came old new = (length came ≤ count) × OnOk result (length came ≡ count) × AreConnections came old new

  -- These messages came while the order served so many connections to a port. If it could not listen there, it failed and none came.
  abbrev pub AreServed : C → C → ℕ → ℕ → Result Ending Failure → List Came → Type 0
  AreServed old new port count ended came =
      (OnOk ended ⊥ × (came ≡ []))
      ⊎ ((listening : C) × steps.listens old port listening × (all : List (Option Came)) × (came ≡ messages_of all) × IsServed count ended all listening new)
