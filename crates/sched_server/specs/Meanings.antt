-- Promise. What each kind of message says to the scheduler. (The scheduler_request is BOINC's; the rest is this profile's.)
use Rattle.std.specs.Prelude.{◌≡◌, ℕ, Option, Some, None, Result, Ok, Err}
use Rattle.http_messages.specs.Deciding.{Asked}
use Rattle.http_messages.specs.Deciding as asks
use Rattle.http_responses.specs.declared.method.Method.{Method}
use Rattle.rpc_records.specs.Reading.{meaning}
use Rattle.rpc_records.specs.declared.fault.Fault.{Fault}
use Rattle.rpc_records.specs.declared.fault.Fault.TheVariants as fault
use Rattle.rpc_records.specs.declared.request.Request.{Request}
use Rattle.sched_book.specs.declared.rows.Rows.{Rows}
use Rattle.stores.specs.Eras.{this_era}
use Rattle.pasts.specs.Messages.{Said, Rpc, Import, Tick, Read, Refused}
use Rattle.message_engine.specs.Imports.{ReadsIn}
use Rattle.sched_server.specs.Statements.{told_of_host}

-- a body says the request that it means, or its fault
abbrev pub said_by : Result Request Fault → Said
said_by (Ok request) = Rpc request
said_by (Err fault) = Refused fault

-- A call says the request that its body means, or its fault. An import says what its text reads as, by the formats of the era in which it
-- came. A statement is a read of what is stored.
abbrev pub SaysIn : ℕ → Asked → Said → Type 0
SaysIn era (asks.call body) said = said ≡ said_by (meaning body)
SaysIn era (asks.import kind batch text) said = (read : Result Rows Fault) × ReadsIn era kind text read × (said ≡ Import kind batch text read)
SaysIn era asks.tick said = said ≡ Tick
SaysIn era (asks.statement host) said = said ≡ Read (told_of_host host)
SaysIn era (asks.wrong_method allowed) said = said ≡ Refused fault.WrongMethod
SaysIn era (asks.refused f) said = said ≡ Refused f

-- the same, for this program
abbrev pub SaysInThisEra : Asked → Said → Type 0
SaysInThisEra = SaysIn this_era

-- the method that the route takes, if the message has another one
abbrev pub allowed_by : Asked → Option Method
allowed_by (asks.wrong_method allowed) = Some allowed
allowed_by (asks.call body) = None
allowed_by (asks.import kind batch text) = None
allowed_by asks.tick = None
allowed_by (asks.statement host) = None
allowed_by (asks.refused f) = None
