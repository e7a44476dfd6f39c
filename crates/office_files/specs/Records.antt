-- Rule. The records of a text of comma-separated values (RFC 4180), as the crate `csv` reads them with its default settings. A byte order
-- mark at the start is ignored. CR, LF and CR LF each end a record. An empty line is no record.
use Rattle.std.specs.Prelude.{ℕ, List}
use Rattle.csv.specs.Reading.{AreRecords, default_config, strip_bom}
use Rattle.csv.specs.declared.parser.State.TheVariants as state

-- a record is the list of its fields, and a field that of its bytes
abbrev pub Record : Type 0
Record = List (List ℕ)

-- these are all the records of a text
abbrev pub AreRecordsOf : List ℕ → List Record → Type 0
AreRecordsOf text records = AreRecords default_config state.StartRecord (strip_bom text) records
