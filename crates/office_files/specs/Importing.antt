-- Rule. The rows that the records of an import say. The first record is the header, which is row 0. Data rows and columns count from 1. The
-- refusal of a faulty text names its first faulty row, and in it the first faulty column. Column 0 means that the number of fields is
-- wrong; row 0 with column 0 also means that there is no record at all. The formats are this profile's.
use Rattle.std.specs.Prelude.{◌≡◌, ℕ, ◌+◌, ◌-◌, Bool, false, ◌==◌, nat_le, if◌then◌else◌, List, [], ◌∷◌, ◌++◌, length, codes, Option, Some, None, ok_or, option_map, option_and_then, unwrap_or, Result, Ok, Err, ⊤}
use Rattle.std.specs.Str.{bytes_eq}
use Rattle.csv.specs.Records.{field_at}
use Rattle.sched_book.specs.Limits.{most_instances, most_delay, most_amount, most_credit, most_version_num}
use Rattle.sched_book.specs.declared.rows.Account.{Account}
use Rattle.sched_book.specs.declared.rows.App.{App}
use Rattle.sched_book.specs.declared.rows.ClassRule.TheVariants.{Any}
use Rattle.sched_book.specs.declared.rows.Rows.{Rows}
use Rattle.sched_book.specs.declared.rows.Rows.TheVariants as rows
use Rattle.sched_book.specs.declared.rows.Version.{Version}
use Rattle.sched_book.specs.declared.rows.Workunit.{Workunit}
use Rattle.office_files.specs.Columns.{name_in, count_within, agreement_in, rule_in}
use Rattle.office_files.specs.Records.{Record, AreRecordsOf}
use Rattle.office_files.specs.declared.fault.RowsFault.{RowsFault}
use Rattle.office_files.specs.declared.fault.RowsFault.TheVariants.{BadCsv, DuplicateName, UnknownReference, TableFull, Unavailable}
use Rattle.texts.specs.Reading.{◌>>=◌}
use Rattle.texts.specs.Words.{word_of}

-- what a column of a row says
unfoldable pub column_of : {A : Type 0} → ℕ → ℕ → (List ℕ → Option A) → Record → Result A RowsFault
column_of row column reads fields = ok_or (option_and_then reads (field_at fields (column - 1))) (BadCsv row column)

-- what a column says; if the row is too short for it, this value
unfoldable pub column_or : {A : Type 0} → ℕ → ℕ → (List ℕ → Option A) → A → Record → Result A RowsFault
column_or row column reads other fields = if nat_le column (length fields) then column_of row column reads fields else Ok other

-- The number of fields of the first record decides which header an import has, since some kinds have a shorter header and a longer one.
abbrev pub account_header : ℕ → Record
account_header count = codes "authenticator" ∷ codes "name" ∷ []

unfoldable pub account_of : ℕ → Record → Result Account RowsFault
account_of row fields = do
  authenticator ← column_of row 1 word_of fields
  name ← column_of row 2 name_in fields
  Ok (record { authenticator = authenticator; name = name })

abbrev pub app_header : ℕ → Record
app_header count = codes "name" ∷ codes "agreement" ∷ []

unfoldable pub app_of : ℕ → Record → Result App RowsFault
app_of row fields = do
  name ← column_of row 1 word_of fields
  agreement ← column_of row 2 agreement_in fields
  Ok (record { name = name; agreement = agreement })

abbrev pub former_version_header : ℕ → Record
former_version_header count = codes "app" ∷ codes "platform" ∷ codes "version_num" ∷ []

abbrev pub version_header : ℕ → Record
version_header count = if count == 4 then former_version_header count ++ codes "version_class" ∷ [] else former_version_header count

-- a version without a class of its own has its platform's word as its class
unfoldable pub version_of : ℕ → Record → Result Version RowsFault
version_of row fields = do
  app ← column_of row 1 word_of fields
  platform ← column_of row 2 word_of fields
  version_num ← column_of row 3 (count_within 1 most_version_num) fields
  class ← column_or row 4 word_of platform fields
  Ok (record { app = app; platform = platform; version_num = version_num; class = class })

abbrev pub former_workunit_header : ℕ → Record
former_workunit_header count =
    codes "name" ∷ codes "app" ∷ codes "min_quorum" ∷ codes "target_nresults" ∷ codes "max_error_results" ∷ codes "max_total_results"
    ∷ codes "max_success_results" ∷ codes "delay_bound" ∷ codes "rsc_fpops_est" ∷ codes "rsc_memory_bound" ∷ codes "rsc_disk_bound"
    ∷ codes "credit" ∷ []

abbrev pub workunit_header : ℕ → Record
workunit_header count = if count == 13 then former_workunit_header count ++ codes "marked" ∷ [] else former_workunit_header count

-- the target must be at least the quorum, and the most instances at least the target
unfoldable pub workunit_of : ℕ → Record → Result Workunit RowsFault
workunit_of row fields = do
  name ← column_of row 1 word_of fields
  app ← column_of row 2 word_of fields
  min_quorum ← column_of row 3 (count_within 1 most_instances) fields
  target_nresults ← column_of row 4 (count_within min_quorum most_instances) fields
  max_error_results ← column_of row 5 (count_within 0 most_instances) fields
  max_total_results ← column_of row 6 (count_within target_nresults most_instances) fields
  max_success_results ← column_of row 7 (count_within 0 most_instances) fields
  delay_bound ← column_of row 8 (count_within 1 most_delay) fields
  rsc_fpops_est ← column_of row 9 (count_within 1 most_amount) fields
  rsc_memory_bound ← column_of row 10 (count_within 0 most_amount) fields
  rsc_disk_bound ← column_of row 11 (count_within 0 most_amount) fields
  credit ← column_of row 12 (count_within 0 most_credit) fields
  rule ← column_or row 13 rule_in Any fields
  Ok (record {
    name = name;
    app = app;
    min_quorum = min_quorum;
    target_nresults = target_nresults;
    max_error_results = max_error_results;
    max_total_results = max_total_results;
    max_success_results = max_success_results;
    delay_bound = delay_bound;
    rsc_fpops_est = rsc_fpops_est;
    rsc_memory_bound = rsc_memory_bound;
    rsc_disk_bound = rsc_disk_bound;
    credit = credit;
    class_rule = rule;
  })

-- the field at an index is this name
abbrev pub is_field : Record → ℕ → List ℕ → Bool
is_field fields index name = unwrap_or (option_map (λ field. bytes_eq field name) (field_at fields index)) false

-- the first column whose field is not the name, if the names begin at an index
abbrev pub first_other : Record → ℕ → List (List ℕ) → Option ℕ
first_other fields index [] = None
first_other fields index (name ∷ names) = if is_field fields index name then first_other fields (index + 1) names else Some (index + 1)

-- the column named for a faulty header
abbrev pub header_fault : List (List ℕ) → Record → Option ℕ
header_fault names fields = if length fields == length names then first_other fields 0 names else Some 0

-- the row that a record with this number of fields says
unfoldable pub row_of : {X : Type 0} → (ℕ → Record → Result X RowsFault) → ℕ → ℕ → Record → Result X RowsFault
row_of reads count row fields = if length fields == count then reads row fields else Err (BadCsv row 0)

-- the rows from a number on
unfoldable pub rows_from : {X : Type 0} → (ℕ → Record → Result X RowsFault) → ℕ → List Record → Result (List X) RowsFault
rows_from reads row [] = Ok []
rows_from reads row (fields ∷ more) = do
  x ← reads row fields
  xs ← rows_from reads (row + 1) more
  Ok (x ∷ xs)

-- the rows under a header
abbrev pub rows_under : {X : Type 0} → (ℕ → Record → Result X RowsFault) → Record → List Record → Option ℕ → Result (List X) RowsFault
rows_under reads header records None = rows_from (row_of reads (length header)) 1 records
rows_under reads header records (Some column) = Err (BadCsv 0 column)

-- The rows of an import with such headers. The number of fields of the first record decides which header it has, and each row must have as
-- many.
abbrev pub rows_of_records : {X : Type 0} → (ℕ → Record → Result X RowsFault) → (ℕ → Record) → List Record → Result (List X) RowsFault
rows_of_records reads header [] = Err (BadCsv 0 0)
rows_of_records reads header (fields ∷ records) = rows_under reads (header (length fields)) records (header_fault (header (length fields)) fields)

-- what the records of the four imports say
unfoldable pub accounts_in : List Record → Result Rows RowsFault
accounts_in records = do
  accounts ← rows_of_records account_of account_header records
  Ok (rows.Accounts accounts)

unfoldable pub apps_in : List Record → Result Rows RowsFault
apps_in records = do
  apps ← rows_of_records app_of app_header records
  Ok (rows.Apps apps)

unfoldable pub versions_under : (ℕ → Record) → List Record → Result Rows RowsFault
versions_under header records = do
  versions ← rows_of_records version_of header records
  Ok (rows.Versions versions)

unfoldable pub workunits_under : (ℕ → Record) → List Record → Result Rows RowsFault
workunits_under header records = do
  workunits ← rows_of_records workunit_of header records
  Ok (rows.Workunits workunits)

abbrev pub versions_in : List Record → Result Rows RowsFault
versions_in = versions_under version_header

abbrev pub workunits_in : List Record → Result Rows RowsFault
workunits_in = workunits_under workunit_header

-- the same before versions had classes, when there was only the shorter header
abbrev pub former_versions_in : List Record → Result Rows RowsFault
former_versions_in = versions_under former_version_header

abbrev pub former_workunits_in : List Record → Result Rows RowsFault
former_workunits_in = workunits_under former_workunit_header

-- the records of a text say this
abbrev pub Says : {A : Type 0} → (List Record → Result A RowsFault) → List ℕ → Result A RowsFault → Type 0
Says reading text said = (records : List Record) × AreRecordsOf text records × (reading records ≡ said)

-- a text is refused with what its records say, or because there was no memory
abbrev pub Refuses : {A : Type 0} → (List Record → Result A RowsFault) → List ℕ → RowsFault → Type 0
Refuses reading text (BadCsv row column) = Says reading text (Err (BadCsv row column))
Refuses reading text (Unavailable cause) = ⊤
Refuses reading text (DuplicateName row) = ⊥
Refuses reading text (UnknownReference row) = ⊥
Refuses reading text TableFull = ⊥
