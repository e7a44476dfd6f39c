-- What the former formats read has no classes: the class of each version is its platform, and no workunit is marked.
use Rattle.std.proofs.Common.{◌≡◌, ℕ, ◌+◌, ◌<◌, Bool, true, false, cond, List, [], ◌∷◌, length, Option, Some, None, Result, Ok, Err, sym, refl, ap, subst, arith}
use Rattle.std.specs.Prelude.{IfOk, ◌==◌}
use Rattle.std.specs.List.{All}
use Rattle.std.proofs.lemmas.Bool.{lt-leb, eqb-true}
use Rattle.std.proofs.lemmas.List.Elements.{All-nil, All-cons}
use Rattle.sched_book.specs.Former.{IsOfItsPlatform, IsUnmarked, AreUnclassed}
use Rattle.sched_book.specs.declared.rows.ClassRule.TheVariants.{Any}
use Rattle.sched_book.specs.declared.rows.Rows.{Rows}
use Rattle.sched_book.specs.declared.rows.Rows.TheVariants as rows
use Rattle.office_files.specs.Columns.{rule_in}
use Rattle.office_files.specs.Importing.{column_of, column_or, accounts_in, apps_in, former_version_header, version_of, versions_under, former_versions_in, former_workunit_header, workunit_of, workunits_under, former_workunits_in, header_fault, row_of, rows_from, rows_under, rows_of_records}
use Rattle.office_files.specs.Records.{Record}
use Rattle.office_files.specs.declared.fault.RowsFault.{RowsFault}
use Rattle.office_files.specs.declared.fault.RowsFault.TheVariants.{BadCsv}
use Rattle.texts.specs.Reading.{and_then}
use Rattle.texts.specs.Words.{word_of}

-- ---- what is read next

-- what is read next has the property, for any value
whatever : {A B : Type 0} (Q : B → Type 0) (r : Result A RowsFault) (f : A → Result B RowsFault) → ((x : A) → IfOk (f x) Q) → IfOk (and_then r f) Q
unfolding and_then
whatever Q (Ok x) f h = h x
whatever Q (Err e) f h = tt

-- the same for a value that is known
of_this : {A B : Type 0} (Q : B → Type 0) (r : Result A RowsFault) (f : A → Result B RowsFault) (x : A) → r ≡ Ok x → IfOk (f x) Q → IfOk (and_then r f) Q
unfolding and_then
of_this Q r f x is h = subst (λ q. IfOk (and_then q f) Q) (sym is) h

-- ---- a row

shorter : {A : Type 0} (row column : ℕ) (reads : List ℕ → Option A) (other : A) (fields : Record) → length fields < column
    → column_or row column reads other fields ≡ Ok other
unfolding column_or
shorter row column reads other fields less = ap (λ b. cond b (column_of row column reads fields) (Ok other)) (lt-leb column (length fields) less)

version_of_platform : (row : ℕ) (fields : Record) → length fields ≡ 3 → IfOk (version_of row fields) IsOfItsPlatform
unfolding version_of
version_of_platform row fields size =
    whatever _ _ _ (λ app.
    whatever _ _ _ (λ platform.
    whatever _ _ _ (λ num.
    of_this _ _ _ platform (shorter row 4 word_of platform fields (omega (arith, size))) refl)))

workunit_unmarked : (row : ℕ) (fields : Record) → length fields ≡ 12 → IfOk (workunit_of row fields) IsUnmarked
unfolding workunit_of
workunit_unmarked row fields size =
    whatever _ _ _ (λ name.
    whatever _ _ _ (λ app.
    whatever _ _ _ (λ quorum.
    whatever _ _ _ (λ target.
    whatever _ _ _ (λ errors.
    whatever _ _ _ (λ total.
    whatever _ _ _ (λ successes.
    whatever _ _ _ (λ delay.
    whatever _ _ _ (λ work.
    whatever _ _ _ (λ memory.
    whatever _ _ _ (λ disk.
    whatever _ _ _ (λ credit.
    of_this _ _ _ Any (shorter row 13 rule_in Any fields (omega (arith, size))) refl))))))))))))

-- ---- the rows of an import

module _ {X : Type 0} (P : X → Type 0) (reads : ℕ → Record → Result X RowsFault) where
  one_more : (r : Result X RowsFault) (s : Result (List X) RowsFault) → IfOk r P → IfOk s (All P)
      → IfOk (and_then r (λ x. and_then s (λ xs. Ok (x ∷ xs)))) (All P)
  unfolding and_then
  one_more (Ok x) (Ok xs) h k = All-cons P x xs h k
  one_more (Ok x) (Err e) h k = tt
  one_more (Err e) s h k = tt

  each : ((row : ℕ) (fields : Record) → IfOk (reads row fields) P) → (row : ℕ) (records : List Record) → IfOk (rows_from reads row records) (All P)
  unfolding rows_from
  each h row [] = All-nil P
  each h row (fields ∷ more) = one_more (reads row fields) (rows_from reads (row + 1) more) (h row fields) (each h (row + 1) more)

sized : {X : Type 0} (P : X → Type 0) (reads : ℕ → Record → Result X RowsFault) (count : ℕ)
    → ((row : ℕ) (fields : Record) → length fields ≡ count → IfOk (reads row fields) P) → (row : ℕ) (fields : Record) → IfOk (row_of reads count row fields) P
unfolding row_of
sized P reads count h row fields = cases (length fields == count) refl
  where
    cases : (b : Bool) → (length fields == count) ≡ b → IfOk (cond b (reads row fields) (Err (BadCsv row 0))) P
    cases true is = h row fields (eqb-true (length fields) count is)
    cases false is = tt

-- each row of an import with one header has the property
of_import : {X : Type 0} (P : X → Type 0) (reads : ℕ → Record → Result X RowsFault) (names : Record)
    → ((row : ℕ) (fields : Record) → length fields ≡ length names → IfOk (reads row fields) P)
    → (records : List Record) → IfOk (rows_of_records reads (λ count. names) records) (All P)
of_import P reads names h [] = tt
of_import P reads names h (fields ∷ records) = under (header_fault names fields)
  where
    under : (fault : Option ℕ) → IfOk (rows_under reads names records fault) (All P)
    under None = each P (row_of reads (length names)) (sized P reads (length names) h) 1 records
    under (Some column) = tt

as_rows : {X : Type 0} (P : X → Type 0) (f : List X → Rows) → ((xs : List X) → All P xs → AreUnclassed (f xs)) → (r : Result (List X) RowsFault)
    → IfOk r (All P) → IfOk (and_then r (λ xs. Ok (f xs))) AreUnclassed
unfolding and_then
as_rows P f h (Ok xs) all = h xs all
as_rows P f h (Err e) all = tt

-- ---- the four imports

pub accounts_are_unclassed : (records : List Record) → IfOk (accounts_in records) AreUnclassed
unfolding accounts_in
accounts_are_unclassed records = whatever _ _ _ (λ xs. tt)

pub apps_are_unclassed : (records : List Record) → IfOk (apps_in records) AreUnclassed
unfolding apps_in
apps_are_unclassed records = whatever _ _ _ (λ xs. tt)

pub former_versions_are_unclassed : (records : List Record) → IfOk (former_versions_in records) AreUnclassed
unfolding versions_under
former_versions_are_unclassed records =
    as_rows IsOfItsPlatform rows.Versions (λ xs all. all) (rows_of_records version_of former_version_header records)
    (of_import IsOfItsPlatform version_of (former_version_header 3) version_of_platform records)

pub former_workunits_are_unclassed : (records : List Record) → IfOk (former_workunits_in records) AreUnclassed
unfolding workunits_under
former_workunits_are_unclassed records =
    as_rows IsUnmarked rows.Workunits (λ xs all. all) (rows_of_records workunit_of former_workunit_header records)
    (of_import IsUnmarked workunit_of (former_workunit_header 12) workunit_unmarked records)
