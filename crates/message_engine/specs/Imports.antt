-- Promise. What the text of an import says. (The formats are this profile's.)
use Rattle.std.specs.Prelude.{◌≡◌, ℕ, nat_lt, if◌then◌else◌, List, Result, Ok, Err}
use Rattle.office_files.specs.Faults.{refusal_of}
use Rattle.office_files.specs.Importing.{accounts_in, apps_in, versions_in, workunits_in, former_versions_in, former_workunits_in, Says}
use Rattle.office_files.specs.Records.{Record}
use Rattle.office_files.specs.declared.fault.RowsFault.{RowsFault}
use Rattle.rpc_records.specs.declared.fault.Fault.{Fault}
use Rattle.sched_book.specs.declared.rows.Rows.{Rows}
use Rattle.stores.specs.Eras.{this_era, era_of_classes}
use Rattle.stores.specs.Held.{Held}
use Rattle.stores.specs.Kinds.{kind_name}
use Rattle.stores.specs.declared.entry.Entry.{Entry}
use Rattle.stores.specs.declared.entry.Entry.TheVariants.{Batch}
use Rattle.stores.specs.declared.kind.Kind.{Kind}
use Rattle.stores.specs.declared.kind.Kind.TheVariants.{Accounts, Apps, Versions, Workunits}
use Rattle.pasts.specs.Answers.{imported_text}
use Rattle.pasts.specs.Messages.{Import, Message, heard_now}
use Rattle.pasts.specs.declared.answer.AnswerContent.{AnswerContent}
use Rattle.message_engine.specs.Stores.{ServesIn, IsServed}

-- How the records of a text are read as rows of a kind, by the formats of an era. Before the second upgrade versions had no classes, and
-- workunits no marks.
abbrev pub reading_in : ℕ → Kind → List Record → Result Rows RowsFault
reading_in era Accounts = accounts_in
reading_in era Apps = apps_in
reading_in era Versions = if nat_lt era era_of_classes then former_versions_in else versions_in
reading_in era Workunits = if nat_lt era era_of_classes then former_workunits_in else workunits_in

-- the same, by the formats of this program
abbrev pub reading_of : Kind → List Record → Result Rows RowsFault
reading_of = reading_in this_era

-- the same, with a fault as its refusal
abbrev pub as_refusal : Result Rows RowsFault → Result Rows Fault
as_refusal (Ok rows) = Ok rows
as_refusal (Err fault) = Err (refusal_of fault)

-- a text reads as these rows of a kind, or as this refusal, by the formats of an era
abbrev pub ReadsIn : ℕ → Kind → List ℕ → Result Rows Fault → Type 0
ReadsIn era kind text read = (said : Result Rows RowsFault) × Says (reading_in era kind) text said × (read ≡ as_refusal said)

abbrev pub ReadsInThisEra : Kind → List ℕ → Result Rows Fault → Type 0
ReadsInThisEra = ReadsIn this_era

-- the message of an import of a text of a kind, which reads as this
abbrev pub import_of : ℕ → Kind → List ℕ → List ℕ → Result Rows Fault → Message
import_of now kind batch text read = heard_now now (Import kind batch text read)

-- the entry of an import with this number of rows, with its answer
abbrev pub entry_of_batch : Kind → List ℕ → List ℕ → ℕ → Entry
entry_of_batch kind batch text count = Batch kind batch (record { text = text; answer = imported_text (kind_name kind) batch count })

-- the text of an import reads as something, and the import is served as that
abbrev pub ServesImport : ℕ → Kind → List ℕ → List ℕ → AnswerContent → Held → Held → Type 0
ServesImport now kind batch text answer old new =
    (read : Result Rows Fault) × ReadsInThisEra kind text read × ServesIn (import_of now kind batch text read) answer old new

-- the same, with some answer
abbrev pub IsImportServed : ℕ → Kind → List ℕ → List ℕ → Held → Held → Type 0
IsImportServed now kind batch text old new = (read : Result Rows Fault) × ReadsInThisEra kind text read × IsServed (import_of now kind batch text read) old new
