-- Promise. How an order ends: its exit status, and what its answer says of it. (This project's own: docs/PROFILE.md, "The program".)
use Rattle.std.specs.Prelude.{◌≡◌, ℕ, List, [], ◌∷◌, ◌++◌, Result, Ok, Err, OnOk}
use Rattle.std.specs.declared.io.ErrorKind.{ErrorKind}
use Rattle.std.specs.declared.io.ErrorKind.TheVariants.{OutOfMemory}
use Rattle.sqlite.specs.declared.error.Error.{Error}
use Rattle.sqlite.specs.declared.error.Error.TheVariants as library
use Rattle.sqlite.specs.declared.error.ErrorCode.TheVariants as code
use Rattle.table_rows.specs.declared.opening.OpenFault.{OpenFault}
use Rattle.table_rows.specs.declared.opening.OpenFault.TheVariants as fault
use Rattle.http.specs.StatusCode.{IsInClass}
use Rattle.http_responses.specs.Answers.{response_of}
use Rattle.http_responses.specs.declared.answer.Answer.{Answer}
use Rattle.http_responses.specs.declared.answer.Answer.TheVariants as answer
use Rattle.http_responses.specs.declared.media.Media.{Media}
use Rattle.http_responses.specs.declared.media.Media.TheVariants.{Json, Csv}
use Rattle.http_responses.specs.declared.response.Response.{Response}
use Rattle.commands.specs.declared.ending.Ending.{Ending}
use Rattle.commands.specs.declared.ending.Ending.TheVariants.{Done, Refused}
use Rattle.commands.specs.declared.ending.Failure.{Failure}
use Rattle.commands.specs.declared.ending.Failure.TheVariants as failure
use Rattle.commands.specs.declared.ending.Left.{Left}
use Rattle.commands.specs.declared.ending.Left.TheVariants as left

-- ---- exit statuses

abbrev pub status_of_ending : Ending → ℕ
status_of_ending Done = 0
status_of_ending Refused = 1

abbrev pub status_of_failure : Failure → ℕ
status_of_failure failure.Settings = 1
status_of_failure failure.File = 1
status_of_failure failure.OldSchema = 1
status_of_failure (failure.Line number) = 1
status_of_failure failure.Unavailable = 2

-- ---- why an order failed

-- a call of the system failed: there was no memory, or a file, a socket or a stream failed
abbrev pub failure_of_system : ErrorKind → Failure
failure_of_system OutOfMemory = failure.Unavailable
failure_of_system _ = failure.File

-- no connection to the tables could be opened
abbrev pub failure_of_library : Error → Failure
failure_of_library (library.SqliteFailure code.OutOfMemory) = failure.Unavailable
failure_of_library _ = failure.File

-- the tables were refused
abbrev pub failure_of_tables : OpenFault → Failure
failure_of_tables fault.NotTables = failure.File
failure_of_tables fault.BadRow = failure.File
failure_of_tables (fault.OldSchema n) = failure.OldSchema
failure_of_tables (fault.Unavailable cause) = failure.Unavailable

-- ---- an order that sends one message

-- An order that was done got a response of the class 2xx (RFC 9110, section 15.3), and one that was refused got another response. An order
-- that failed may have got any answer: it was unavailable, or it could not be printed.
abbrev pub EndsBy : Answer → Result Ending Failure → Type 0
EndsBy got (Ok Done) = (response : Response) × (got ≡ answer.Response response) × IsInClass 200 response.status
EndsBy got (Ok Refused) = (response : Response) × (got ≡ answer.Response response) × (¬ IsInClass 200 response.status)
EndsBy got (Err why) = Unit {0}

-- ---- what an order prints

-- A body of JSON is a line when it is printed. CSV ends with a line feed of its own.
abbrev pub line_end_after : Media → List ℕ
line_end_after Json = 10 ∷ []
line_end_after Csv = []

-- what is printed of an answer
abbrev pub printed_answer : Answer → List ℕ
printed_answer got = (response_of got).body ++ line_end_after (response_of got).media

-- ---- what is left

-- The files of the tables were opened. If tables could not be opened or made, the order did not end well, and P holds of what is left.
-- Otherwise Q holds of the store.
abbrev pub LeavesBy : {S R : Type 0} → (R → Type 0) → (S → Type 0) → Result Ending Failure → Left S R → Type 0
LeavesBy P Q ended left.Nothing = ⊥
LeavesBy P Q ended (left.Refused rest) = OnOk ended ⊥ × P rest
LeavesBy P Q ended (left.Tables store) = Q store
