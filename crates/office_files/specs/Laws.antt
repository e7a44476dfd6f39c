-- Rule. Laws of the definitions of imports.
use Rattle.std.specs.Prelude.{◌≡◌, ℕ, ◌+◌, List, [], ◌∷◌, ◌++◌, length, None, Result, Ok, Err, ⊤}
use Rattle.office_files.specs.Records.{Record, AreRecordsOf}
use Rattle.office_files.specs.Importing.{account_header, account_of, app_header, app_of, former_version_header, version_header, version_of, former_workunit_header, workunit_header, workunit_of, header_fault, row_of, rows_of_records}
use Rattle.office_files.specs.declared.fault.RowsFault.{RowsFault}
use Rattle.office_files.specs.declared.fault.RowsFault.TheVariants.{BadCsv}

-- a text has exactly one list of records
abbrev pub TextHasOneList : Type 0
TextHasOneList = (text : List ℕ)
    → (records : List Record) × AreRecordsOf text records × ((others : List Record) → AreRecordsOf text others → others ≡ records)

-- each record is read as the row at the same place; the first one's number is `row`
abbrev pub AllRead : {X : Type 0} → (ℕ → Record → Result X RowsFault) → ℕ → List Record → List X → Type 0
AllRead reads row [] [] = ⊤
AllRead reads row [] (x ∷ xs) = ⊥
AllRead reads row (fields ∷ more) [] = ⊥
AllRead reads row (fields ∷ more) (x ∷ xs) = (reads row fields ≡ Ok x) × AllRead reads (row + 1) more xs

-- the row with this number is the first faulty one of the records, and this column of it is faulty
pub record IsFirstFault {X : Type 0} (reads : ℕ → Record → Result X RowsFault) (records : List Record) (row column : ℕ) : Type 0 where
  pub before : List Record
  pub rows : List X
  pub good : AllRead reads 1 before rows
  pub fields : Record
  pub faulty : reads row fields ≡ Err (BadCsv row column)
  pub after : List Record
  pub split : records ≡ before ++ fields ∷ after
  pub number : row ≡ length before + 1

-- under a good header, either every record is read as a row, or the first faulty one is named
pub record ReadsInOrder {X : Type 0} (reads : ℕ → Record → Result X RowsFault) (header : ℕ → Record) : Type 0 where
  pub good : (first : Record) (records : List Record) (rows : List X) → header_fault (header (length first)) first ≡ None
      → rows_of_records reads header (first ∷ records) ≡ Ok rows → AllRead (row_of reads (length (header (length first)))) 1 records rows
  pub faulty : (first : Record) (records : List Record) (row column : ℕ) → header_fault (header (length first)) first ≡ None
      → rows_of_records reads header (first ∷ records) ≡ Err (BadCsv row column)
      → IsFirstFault (row_of reads (length (header (length first)))) records row column

pub record ImportsReadInOrder : Type 0 where
  pub accounts : ReadsInOrder account_of account_header
  pub apps : ReadsInOrder app_of app_header
  pub versions : ReadsInOrder version_of version_header
  pub workunits : ReadsInOrder workunit_of workunit_header
  pub former_versions : ReadsInOrder version_of former_version_header
  pub former_workunits : ReadsInOrder workunit_of former_workunit_header
