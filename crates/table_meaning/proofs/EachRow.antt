-- What is computed for each row: its columns determine it, they have the types of its table, and the first of them are its key.
use Rattle.std.proofs.Common.{◌≡◌, ℕ, ℤ, pos, Bool, true, false, cond, Option, Some, None, length, refl, sym, ap, ◌∙◌, ◌&&◌, List, [], ◌∷◌}
use Rattle.std.specs.Prelude.{◌==◌, if◌then◌else◌}
use Rattle.sqlite.specs.Values.{or_null}
use Rattle.sqlite_typed.specs.Columns.{bytes_of}
use Rattle.sqlite_value.specs.declared.value.Value.{Value}
use Rattle.sqlite_value.specs.declared.value.Value.TheVariants.{Null, Int, Text}
use Rattle.sqlite_value.specs.Order.{Row, column}
use Rattle.table_meaning.specs.declared.rows.SettingValue.{SettingValue}
use Rattle.table_meaning.specs.declared.rows.SettingValue.TheVariants.{Number, Word}
use Rattle.table_meaning.specs.declared.rows.StoredHost.{StoredHost}
use Rattle.table_meaning.specs.declared.rows.StoredInstance.{StoredInstance}
use Rattle.table_meaning.specs.declared.rows.StoredUnit.{StoredUnit}
use Rattle.table_meaning.specs.declared.rows.StoredRow.{StoredRow}
use Rattle.table_meaning.specs.declared.rows.StoredRow.TheVariants.{Setting, Account, App, Version, Unit, Host, Instance, Kept, Batch, VersionClass, UnitMark}
use Rattle.table_meaning.specs.Kept.{number_of}
use Rattle.table_meaning.specs.Rows.{columns_of, setting_value, whole, key_places, table_of, key_columns, row_key_of, RowKey, setting_key, account_key, app_key, version_key, unit_key, host_key, instance_key, kept_key, batch_key, class_key, mark_key, table_at}
use Rattle.table_meaning.specs.Kinds.{number, integer, words, optional, either}
use Rattle.table_meaning.specs.Layouts.{layout_of, of_key}
use Rattle.table_meaning.specs.Formats.{kinds_of}
use Rattle.table_meaning.proofs.Typed.{has_type, have_types}
use Rattle.table_meaning.specs.declared.tables.TableName.{TableName}
use Rattle.table_meaning.specs.declared.tables.TableName.TheVariants as table

-- ---- what a column says

abbrev integer_of : Value → ℤ
integer_of (Int n) = n
integer_of other = pos 0

abbrev setting_of : Value → SettingValue
setting_of (Text t) = Word t
setting_of other = Number (number_of other)

-- NULL means `None`
abbrev if_any : {X : Type 0} → (Value → X) → Value → Option X
if_any tells Null = None
if_any tells other = Some (tells other)

abbrev is_text : Value → Bool
is_text (Text t) = true
is_text other = false

any_back : {X : Type 0} (writes : X → Value) (tells : Value → X) → ((x : X) → if_any tells (writes x) ≡ Some x) → (o : Option X) → if_any tells (or_null writes o) ≡ o
any_back writes tells back None = refl
any_back writes tells back (Some x) = back x

flag_back : (b : Bool) → (number_of (whole (if b then 1 else 0)) == 1) ≡ b
flag_back true = refl
flag_back false = refl

setting_back : (v : SettingValue) → setting_of (setting_value v) ≡ v
setting_back (Number n) = refl
setting_back (Word w) = refl

no_text : (o : Option ℕ) → is_text (or_null whole o) ≡ false
no_text None = refl
no_text (Some n) = refl

-- ---- rows

abbrev unit_told : Row → StoredUnit
unit_told row = record {
  id = number_of (column row 0);
  name = bytes_of (column row 1);
  app_id = number_of (column row 2);
  min_quorum = number_of (column row 3);
  target_nresults = number_of (column row 4);
  max_error_results = number_of (column row 5);
  max_total_results = number_of (column row 6);
  max_success_results = number_of (column row 7);
  delay_bound = number_of (column row 8);
  rsc_fpops_est = integer_of (column row 9);
  rsc_memory_bound = integer_of (column row 10);
  rsc_disk_bound = integer_of (column row 11);
  credit = number_of (column row 12);
  status = number_of (column row 13);
}

abbrev host_told : Row → StoredHost
host_told row = record {
  id = number_of (column row 0);
  account_id = number_of (column row 1);
  cpid = bytes_of (column row 2);
  platforms = bytes_of (column row 3);
  fpops = integer_of (column row 4);
  memory = integer_of (column row 5);
  disk = integer_of (column row 6);
  quota = number_of (column row 7);
  held = number_of (column row 8);
  credit = integer_of (column row 9);
}

abbrev instance_told : Row → StoredInstance
instance_told row = record {
  unit_id = number_of (column row 0);
  num = number_of (column row 1);
  host_id = if_any number_of (column row 2);
  sent = if_any integer_of (column row 3);
  deadline = if_any integer_of (column row 4);
  lapse = number_of (column row 5);
  outcome = if_any number_of (column row 6);
  output = if_any bytes_of (column row 7);
  place = if_any number_of (column row 8);
  queued = number_of (column row 9) == 1;
}

-- The row with these columns. Their number determines its table. If several tables have as many columns, it depends on which of them are texts.
row_of_columns : Row → StoredRow
row_of_columns row =
    if length row == 2 then (if is_text (column row 0) then Setting (record { name = bytes_of (column row 0); value = setting_of (column row 1) })
    else VersionClass (record { version_id = number_of (column row 0); class = bytes_of (column row 1) }))
    else (if length row == 3 then (if is_text (column row 1) then (if is_text (column row 2) then Account (record { id = number_of (column row 0); auth = bytes_of (column row 1); name = bytes_of (column row 2) })
    else App (record { id = number_of (column row 0); name = bytes_of (column row 1); agreement = if_any number_of (column row 2) }))
    else UnitMark (record { unit_id = number_of (column row 0); marked = number_of (column row 1) == 1; class = if_any bytes_of (column row 2) }))
    else (if length row == 4 then (if is_text (column row 0) then Batch (record { kind = bytes_of (column row 0); name = bytes_of (column row 1); text = bytes_of (column row 2); answer = bytes_of (column row 3) })
    else Version (record { id = number_of (column row 0); app_id = number_of (column row 1); platform = bytes_of (column row 2); num = number_of (column row 3) }))
    else (if length row == 5 then Kept (record { host_id = number_of (column row 0); slot = number_of (column row 1); seqno = number_of (column row 2); text = bytes_of (column row 3); reply = bytes_of (column row 4) })
    else (if length row == 10 then (if is_text (column row 2) then Host (host_told row) else Instance (instance_told row))
    else Unit (unit_told row)))))

is_told : (r : StoredRow) → row_of_columns (columns_of r) ≡ r
unfolding row_of_columns
is_told (Setting s) = λ i. Setting (record { name = s.name; value = setting_back s.value i })
is_told (App a) =
    ap (λ b. cond b (Account (record { id = a.id; auth = a.name; name = bytes_of (or_null whole a.agreement) })) (App (record { id = a.id; name = a.name; agreement = if_any number_of (or_null whole a.agreement) }))) (no_text a.agreement)
    ∙ (λ i. App (record { id = a.id; name = a.name; agreement = any_back whole number_of (λ n. refl) a.agreement i }))
is_told (Instance x) =
    ap (λ b. cond b (Host (host_told (columns_of (Instance x)))) (Instance (instance_told (columns_of (Instance x))))) (no_text x.host_id)
    ∙ (λ i. Instance (record {
      unit_id = x.unit_id;
      num = x.num;
      host_id = any_back whole number_of (λ n. refl) x.host_id i;
      sent = any_back Int integer_of (λ n. refl) x.sent i;
      deadline = any_back Int integer_of (λ n. refl) x.deadline i;
      lapse = x.lapse;
      outcome = any_back whole number_of (λ n. refl) x.outcome i;
      output = any_back Text bytes_of (λ t. refl) x.output i;
      place = any_back whole number_of (λ n. refl) x.place i;
      queued = flag_back x.queued i;
    }))
is_told (UnitMark m) = λ i. UnitMark (record { unit_id = m.unit_id; marked = flag_back m.marked i; class = any_back Text bytes_of (λ t. refl) m.class i })
is_told _ = refl

pub columns_told : (r s : StoredRow) → columns_of r ≡ columns_of s → r ≡ s
columns_told r s same = sym (is_told r) ∙ ap row_of_columns same ∙ is_told s

-- ---- the types of its columns, and its key

setting : (v : SettingValue) → has_type (either number words) (setting_value v) ≡ true
setting (Number n) = refl
setting (Word w) = refl

or_number : (o : Option ℕ) → has_type (optional number) (or_null whole o) ≡ true
or_number None = refl
or_number (Some n) = refl

or_integer : (o : Option ℤ) → has_type (optional integer) (or_null Int o) ≡ true
or_integer None = refl
or_integer (Some n) = refl

or_words : (o : Option (List ℕ)) → has_type (optional words) (or_null Text o) ≡ true
or_words None = refl
or_words (Some t) = refl

pub typed : (row : StoredRow) → have_types (kinds_of (table_of row)) (columns_of row) ≡ true
typed (Setting s) = λ i. setting s.value i && true
typed (App a) = λ i. or_number a.agreement i && true
typed (Instance x) = λ i. or_number x.host_id i && (or_integer x.sent i && (or_integer x.deadline i && (or_number x.outcome i && (or_words x.output i && (or_number x.place i && true)))))
typed (UnitMark m) = λ i. or_words m.class i && true
typed _ = refl

pub key_first : (row : StoredRow) → of_key (layout_of (table_of row)) (columns_of row) ≡ key_columns (row_key_of row)
key_first (Setting s) = refl
key_first _ = refl

-- ---- the columns of a key: one or two, each a number or a text

abbrev pub is_cell : Value → Bool
is_cell (Int n) = true
is_cell (Text t) = true
is_cell _ = false

abbrev pub is_key_row : Row → Bool
is_key_row [] = false
is_key_row (v ∷ []) = is_cell v
is_key_row (v ∷ u ∷ []) = is_cell v && is_cell u
is_key_row (v ∷ u ∷ w ∷ more) = false

-- ---- a key from its table and columns

abbrev pub number_in : Value → ℕ
number_in (Int (pos n)) = n
number_in _ = 0

abbrev pub key_from : TableName → Row → RowKey
key_from table.Setting cols = setting_key (bytes_of (column cols 0))
key_from table.Account cols = account_key (number_in (column cols 0))
key_from table.App cols = app_key (number_in (column cols 0))
key_from table.Version cols = version_key (number_in (column cols 0))
key_from table.Unit cols = unit_key (number_in (column cols 0))
key_from table.Host cols = host_key (number_in (column cols 0))
key_from table.Instance cols = instance_key (number_in (column cols 0)) (number_in (column cols 1))
key_from table.Kept cols = kept_key (number_in (column cols 0)) (number_in (column cols 1))
key_from table.Batch cols = batch_key (bytes_of (column cols 0)) (bytes_of (column cols 1))
key_from table.VersionClass cols = class_key (number_in (column cols 0))
key_from table.UnitMark cols = mark_key (number_in (column cols 0))

-- what is computed for each key: its columns have the form of a key and determine it, and there are as many as in its table's key
pub key_is : (key : RowKey) → (is_key_row (key_columns key) ≡ true) × (key_from (table_at key) (key_columns key) ≡ key) × (length (key_places (table_at key)) ≡ length (key_columns key))
key_is (setting_key name) = (refl, refl, refl)
key_is _ = (refl, refl, refl)

-- the columns of a key of a table determine the key
pub key_of_table : (t : TableName) (key : RowKey) → table_at key ≡ t → key ≡ key_from t (key_columns key)
key_of_table t key at = sym (key_is key).1 ∙ ap (λ u. key_from u (key_columns key)) at
