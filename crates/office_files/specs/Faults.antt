-- Rule. What the faults of an import mean.
use Rattle.std.specs.Prelude.{⊤, Result, IfErr}
use Rattle.rpc_records.specs.declared.fault.Fault.{Fault}
use Rattle.rpc_records.specs.declared.fault.Fault.TheVariants as refusal
use Rattle.sched_book.specs.declared.cause.Cause.TheVariants.{Memory}
use Rattle.office_files.specs.declared.fault.RowsFault.{RowsFault}
use Rattle.office_files.specs.declared.fault.RowsFault.TheVariants.{BadCsv, DuplicateName, UnknownReference, TableFull, Unavailable}
use Rattle.texts.specs.Reading.{GivesUnless}

-- the refusal for a fault
abbrev pub refusal_of : RowsFault → Fault
refusal_of (BadCsv row column) = refusal.BadCsv row column
refusal_of (DuplicateName row) = refusal.DuplicateName row
refusal_of (UnknownReference row) = refusal.UnknownReference row
refusal_of TableFull = refusal.TableFull
refusal_of (Unavailable cause) = refusal.Unavailable

-- the faults that reading a text may have
abbrev pub IsOfReading : RowsFault → Type 0
IsOfReading (BadCsv row column) = ⊤
IsOfReading (DuplicateName row) = ⊥
IsOfReading (UnknownReference row) = ⊥
IsOfReading TableFull = ⊥
IsOfReading (Unavailable cause) = ⊤

-- The result is what the reading says, unless there was no memory.
abbrev pub GivesReading : {A : Type 0} → Result A RowsFault → Result A RowsFault → Type 0
GivesReading result reading = IfErr result IsOfReading × GivesUnless (Unavailable Memory) result reading
