-- Promise. The messages that an order makes itself, and how many it may handle. (This project's own.)
use Rattle.std.specs.Prelude.{◌≡◌, ℕ, List, [], ◌∷◌, Result, OnOk, decimal}
use Rattle.command_line.specs.declared.order.Order.{Order}
use Rattle.command_line.specs.declared.order.Order.TheVariants as order
use Rattle.http_requests.specs.Requests.{import_request, tick_request, statement_request}
use Rattle.sched_server.specs.Arrivals.{Came}
use Rattle.commands.specs.Endings.{EndsBy}
use Rattle.commands.specs.declared.answering.Task.{Task}
use Rattle.commands.specs.declared.answering.Task.TheVariants as task
use Rattle.commands.specs.declared.ending.Failure.{Failure}
use Rattle.commands.specs.declared.ending.Ending.{Ending}
use Rattle.commands.specs.declared.files.Files as files

-- a message of these bytes that arrived at this moment, with an answer by which an order ends so
pub record HasArrived (now : ℕ) (bytes : List ℕ) (ended : Result Ending Failure) (c : Came) : Type 0 where
  pub now_is : c.arrival.now ≡ now
  pub bytes_are : c.arrival.bytes ≡ bytes
  pub ends : EndsBy c.answer ended

-- One message, which arrived at this moment, and this is true of its bytes. The order ended by its answer. If the order failed, there may be
-- no message.
abbrev pub IsOne : Result Ending Failure → ℕ → (List ℕ → Type 0) → List Came → Type 0
IsOne ended now Is [] = OnOk ended ⊥
IsOne ended now Is (c ∷ []) = (c.arrival.now ≡ now) × Is c.arrival.bytes × EndsBy c.answer ended
IsOne ended now Is (c ∷ d ∷ came) = ⊥

-- with this key of an operator, the bytes import what a file says under this kind and name
abbrev pub IsImport : {F : Type 0} → files.Ghosts F → List ℕ → List ℕ → List ℕ → List ℕ → List ℕ → Type 0
IsImport g key kind batch file bytes = (text : List ℕ) × g.says file text × (bytes ≡ import_request key kind batch text)

-- the bytes are those of a tick with this key
abbrev pub IsTick : List ℕ → List ℕ → Type 0
IsTick key bytes = bytes ≡ tick_request key

-- with this key the bytes ask for the statement of this host
abbrev pub IsStatement : List ℕ → ℕ → List ℕ → Type 0
IsStatement key host bytes = bytes ≡ statement_request key (decimal host)

-- what may come over so many connections to a port, if serving them ended so
abbrev pub ServedSo : Type 1
ServedSo = ℕ → ℕ → Result Ending Failure → List Came → Type 0

-- These may be all messages of a task that ended so: those of its connections, or the one that the task makes with this key.
abbrev pub AreOf : {F : Type 0} → files.Ghosts F → ServedSo → List ℕ → Task → Result Ending Failure → List Came → Type 0
AreOf g served key (task.Serve port count) ended came = served port count ended came
AreOf g served key (task.Import kind batch file) ended came = IsOne ended 0 (IsImport g key kind.now batch.now file.now) came
AreOf g served key (task.Tick at) ended came = IsOne ended at (IsTick key) came
AreOf g served key (task.Statement host) ended came = IsOne ended 0 (IsStatement key host) came

-- The same of an order with tables, whose messages are those of its connections, or the one that it makes with this key. Another order has none.
abbrev pub MayCome : {F : Type 0} → files.Ghosts F → ServedSo → List ℕ → Order → Result Ending Failure → List Came → Type 0
MayCome g served key (order.Serve tables port count) ended came = served port count ended came
MayCome g served key (order.Import tables kind batch file) ended came = IsOne ended 0 (IsImport g key kind batch file) came
MayCome g served key (order.Tick tables at) ended came = IsOne ended at (IsTick key) came
MayCome g served key (order.Statement tables host) ended came = IsOne ended 0 (IsStatement key host) came
MayCome g served key o ended came = came ≡ []
