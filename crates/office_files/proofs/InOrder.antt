-- Rows are read in order, and the first faulty one is named.
use Rattle.std.proofs.Common.{◌≡◌, ℕ, ◌+◌, Bool, true, false, cond, List, [], ◌∷◌, ◌++◌, length, Option, Some, None, Result, Ok, Err, sym, refl, ap, subst, ◌∙◌, arith}
use Rattle.std.specs.Prelude.{IfErr, ok_or, option_and_then, nat_le, ◌-◌, ◌==◌}
use Rattle.csv.specs.Records.{field_at}
use Rattle.sched_book.specs.Limits.{most_instances, most_delay, most_amount, most_credit, most_version_num}
use Rattle.sched_book.specs.declared.rows.ClassRule.TheVariants.{Any}
use Rattle.office_files.specs.Columns.{name_in, count_within, agreement_in, rule_in}
use Rattle.office_files.specs.Records.{Record}
use Rattle.office_files.specs.Importing.{column_of, column_or, account_header, account_of, app_header, app_of, former_version_header, version_header, version_of, former_workunit_header, workunit_header, workunit_of, row_of, rows_from, rows_under}
use Rattle.office_files.specs.Laws.{AllRead, IsFirstFault, ReadsInOrder, ImportsReadInOrder}
use Rattle.office_files.specs.declared.fault.RowsFault.{RowsFault}
use Rattle.office_files.specs.declared.fault.RowsFault.TheVariants.{BadCsv}
use Rattle.texts.specs.Reading.{and_then}
use Rattle.texts.specs.Words.{word_of}

-- a fault names the row that was read
abbrev TellsRow : {A : Type 0} → ℕ → Result A RowsFault → Type 0
TellsRow row r = IfErr r (λ e. (column : ℕ) × (e ≡ BadCsv row column))

none_or_some : {A : Type 0} (row column : ℕ) (o : Option A) → TellsRow row (ok_or o (BadCsv row column))
none_or_some row column None = (column, refl)
none_or_some row column (Some x) = tt

at_column : {A : Type 0} (row column : ℕ) (reads : List ℕ → Option A) (fields : Record) → TellsRow row (column_of row column reads fields)
unfolding column_of
at_column row column reads fields = none_or_some row column (option_and_then reads (field_at fields (column - 1)))

where_long : {A : Type 0} (b : Bool) (row : ℕ) (r : Result A RowsFault) (other : A) → TellsRow row r → TellsRow row (cond b r (Ok other))
where_long true row r other h = h
where_long false row r other h = tt

at_column_or : {A : Type 0} (row column : ℕ) (reads : List ℕ → Option A) (other : A) (fields : Record) → TellsRow row (column_or row column reads other fields)
unfolding column_or
at_column_or row column reads other fields =
    where_long (nat_le column (length fields)) row (column_of row column reads fields) other (at_column row column reads fields)

next : {A B : Type 0} (row : ℕ) (r : Result A RowsFault) (f : A → Result B RowsFault) → TellsRow row r → ((x : A) → TellsRow row (f x)) → TellsRow row (and_then r f)
unfolding and_then
next row (Ok x) f h k = k x
next row (Err e) f h k = h

account_tells : (row : ℕ) (fields : Record) → TellsRow row (account_of row fields)
unfolding account_of
account_tells row fields = next row _ _ (at_column row 1 word_of fields) (λ a. next row _ _ (at_column row 2 name_in fields) (λ b. tt))

app_tells : (row : ℕ) (fields : Record) → TellsRow row (app_of row fields)
unfolding app_of
app_tells row fields = next row _ _ (at_column row 1 word_of fields) (λ a. next row _ _ (at_column row 2 agreement_in fields) (λ b. tt))

version_tells : (row : ℕ) (fields : Record) → TellsRow row (version_of row fields)
unfolding version_of
version_tells row fields =
    next row _ _ (at_column row 1 word_of fields) (λ a.
    next row _ _ (at_column row 2 word_of fields) (λ b.
    next row _ _ (at_column row 3 (count_within 1 most_version_num) fields) (λ c.
    next row _ _ (at_column_or row 4 word_of b fields) (λ d. tt))))

workunit_tells : (row : ℕ) (fields : Record) → TellsRow row (workunit_of row fields)
unfolding workunit_of
workunit_tells row fields =
    next row _ _ (at_column row 1 word_of fields) (λ name.
    next row _ _ (at_column row 2 word_of fields) (λ app.
    next row _ _ (at_column row 3 (count_within 1 most_instances) fields) (λ quorum.
    next row _ _ (at_column row 4 (count_within quorum most_instances) fields) (λ target.
    next row _ _ (at_column row 5 (count_within 0 most_instances) fields) (λ errors.
    next row _ _ (at_column row 6 (count_within target most_instances) fields) (λ total.
    next row _ _ (at_column row 7 (count_within 0 most_instances) fields) (λ successes.
    next row _ _ (at_column row 8 (count_within 1 most_delay) fields) (λ delay.
    next row _ _ (at_column row 9 (count_within 1 most_amount) fields) (λ work.
    next row _ _ (at_column row 10 (count_within 0 most_amount) fields) (λ memory.
    next row _ _ (at_column row 11 (count_within 0 most_amount) fields) (λ disk.
    next row _ _ (at_column row 12 (count_within 0 most_credit) fields) (λ credit.
    next row _ _ (at_column_or row 13 rule_in Any fields) (λ rule. tt)))))))))))))

module _ {X : Type 0} (reads : ℕ → Record → Result X RowsFault) where
  sized : (b : Bool) (row : ℕ) (r : Result X RowsFault) → TellsRow row r → TellsRow row (cond b r (Err (BadCsv row 0)))
  sized true row r h = h
  sized false row r h = (0, refl)

  row_tells : ((row : ℕ) (fields : Record) → TellsRow row (reads row fields)) → (count row : ℕ) (fields : Record) → TellsRow row (row_of reads count row fields)
  unfolding row_of
  row_tells h count row fields = sized (length fields == count) row (reads row fields) (h row fields)

  one_good : (row : ℕ) (fields : Record) (more : List Record) (r : Result X RowsFault) (s : Result (List X) RowsFault) (rows : List X) → reads row fields ≡ r
      → ((xs : List X) → s ≡ Ok xs → AllRead reads (row + 1) more xs) → and_then r (λ x. and_then s (λ xs. Ok (x ∷ xs))) ≡ Ok rows → AllRead reads row (fields ∷ more) rows
  unfolding and_then
  one_good row fields more (Ok x) (Ok xs) rows is h e =
      let same : (x ∷ xs) ≡ rows = cc in
      subst (AllRead reads row (fields ∷ more)) same (is, h xs refl)
  one_good row fields more (Ok x) (Err f) rows is h e = cc
  one_good row fields more (Err f) s rows is h e = cc

  all_good : (row : ℕ) (records : List Record) (rows : List X) → rows_from reads row records ≡ Ok rows → AllRead reads row records rows
  unfolding rows_from
  all_good row [] rows e = let same : [] ≡ rows = cc in subst (AllRead reads row []) same tt
  all_good row (fields ∷ more) rows e =
      one_good row fields more (reads row fields) (rows_from reads (row + 1) more) rows refl (all_good (row + 1) more) e

  -- the first fault of records, if the first has the number n
  record IsFaultFrom (n : ℕ) (records : List Record) (row column : ℕ) : Type 0 where
    before : List Record
    rows : List X
    good : AllRead reads n before rows
    fields : Record
    faulty : reads row fields ≡ Err (BadCsv row column)
    after : List Record
    split : records ≡ before ++ fields ∷ after
    number : row ≡ length before + n

  one_faulty : (n : ℕ) (fields : Record) (more : List Record) (r : Result X RowsFault) (s : Result (List X) RowsFault) (row column : ℕ) → reads n fields ≡ r → TellsRow n r
      → (s ≡ Err (BadCsv row column) → IsFaultFrom (n + 1) more row column) → and_then r (λ x. and_then s (λ xs. Ok (x ∷ xs))) ≡ Err (BadCsv row column)
      → IsFaultFrom n (fields ∷ more) row column
  unfolding and_then
  one_faulty n fields more (Ok x) (Ok xs) row column is tells h e = cc
  one_faulty n fields more (Ok x) (Err f) row column is tells h e =
      let m = h (let same : f ≡ BadCsv row column = cc in ap Err same) in
      record {
        before = fields ∷ m.before;
        rows = x ∷ m.rows;
        good = (is, m.good);
        fields = m.fields;
        faulty = m.faulty;
        after = m.after;
        split = ap (λ ys. fields ∷ ys) m.split;
        number = let e : row ≡ length m.before + (n + 1) = m.number in omega arith;
      }
  one_faulty n fields more (Err f) s row column is tells h e =
      let told : f ≡ BadCsv row column = cc in
      let same : row ≡ n = let own : f ≡ BadCsv n tells.0 = tells.1 in cc in
      record {
        before = [];
        rows = [];
        good = tt;
        fields = fields;
        faulty = subst (λ m. reads m fields ≡ Err (BadCsv row column)) (sym same) (is ∙ ap Err told);
        after = more;
        split = refl;
        number = omega arith;
      }

  first_faulty : ((row : ℕ) (fields : Record) → TellsRow row (reads row fields)) → (n : ℕ) (records : List Record) (row column : ℕ)
      → rows_from reads n records ≡ Err (BadCsv row column) → IsFaultFrom n records row column
  unfolding rows_from
  first_faulty tells n [] row column e = cc
  first_faulty tells n (fields ∷ more) row column e =
      one_faulty n fields more (reads n fields) (rows_from reads (n + 1) more) row column refl (tells n fields) (first_faulty tells (n + 1) more row column) e

from_first : {X : Type 0} (reads : ℕ → Record → Result X RowsFault) (records : List Record) (row column : ℕ)
    → IsFaultFrom reads 1 records row column → IsFirstFault reads records row column
from_first reads records row column m = record {
  before = m.before;
  rows = m.rows;
  good = m.good;
  fields = m.fields;
  faulty = m.faulty;
  after = m.after;
  split = m.split;
  number = m.number;
}

in_order : {X : Type 0} (reads : ℕ → Record → Result X RowsFault) (header : ℕ → Record) → ((row : ℕ) (fields : Record) → TellsRow row (reads row fields)) → ReadsInOrder reads header
in_order {X = X} reads header tells = record {
  good = λ (first : Record) (records : List Record) (rows : List X) head e.
      let names = header (length first) in
      all_good (row_of reads (length names)) 1 records rows (sym (ap (rows_under reads names records) head) ∙ e);
  faulty = λ (first : Record) (records : List Record) row column head e.
      let names = header (length first) in
      from_first (row_of reads (length names)) records row column
      (first_faulty (row_of reads (length names)) (row_tells reads tells (length names)) 1 records row column (sym (ap (rows_under reads names records) head) ∙ e));
}

pub imports_read_in_order : ImportsReadInOrder
imports_read_in_order = record {
  accounts = in_order account_of account_header account_tells;
  apps = in_order app_of app_header app_tells;
  versions = in_order version_of version_header version_tells;
  workunits = in_order workunit_of workunit_header workunit_tells;
  former_versions = in_order version_of former_version_header version_tells;
  former_workunits = in_order workunit_of former_workunit_header workunit_tells;
}
