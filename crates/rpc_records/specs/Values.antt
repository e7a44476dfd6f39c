-- Rule. What one value of JSON says: it is None if the value is not of the wanted form. `null` is of none of these forms. JSON's values are
-- those of serde_json: a number is unsigned or negative within 64 bits, or a float. A number with a point or an exponent is a float there,
-- and so are `-0` and an integer beyond 64 bits.
use Rattle.std.specs.Prelude.{◌^◌, ℕ, ℤ, pos, negsuc, List, [], ◌∷◌, ◌&&◌, nat_le, int_le, codes, Option, Some, None, option_map, option_and_then}
use Rattle.std.specs.Bool.{then_some}
use Rattle.serde_json.specs.Data.{Data, object, Items, no_items, item}
use Rattle.serde_json.specs.Events.{items_len}
use Rattle.serde_json.specs.Find.{get, as_str, as_number, as_array, as_object, as_u64, as_i64}
use Rattle.rpc_records.specs.Members.{is_of}
use Rattle.rpc_records.specs.declared.request.Report.{Report}
use Rattle.rpc_records.specs.declared.text_kind.TextKind.{TextKind}
use Rattle.rpc_records.specs.declared.text_kind.TextKind.TheVariants.{Word, Name, Output}

infixl 10 ◌>>=◌
abbrev ◌>>=◌ : {A B : Type 0} → Option A → (A → Option B) → Option B
o >>= f = option_and_then f o

-- A text of this kind.
abbrev pub text_in : TextKind → Data → Option (List ℕ)
text_in kind d = do
  text ← as_str d
  then_some (is_of kind text) text

-- A whole number from `least` to `most`.
abbrev pub whole_in : ℕ → ℕ → Data → Option ℕ
whole_in least most d = do
  number ← as_number d
  n ← as_u64 number
  then_some (nat_le least n && nat_le n most) n

-- A whole number of 32 bits with its sign, from -2147483648 to 2147483647.
abbrev pub status_in : Data → Option ℤ
status_in d = do
  number ← as_number d
  z ← as_i64 number
  then_some (int_le (negsuc 2147483647) z && int_le z (pos 2147483647)) z

-- An object with any members.
abbrev pub object_in : Data → Option Data
object_in d = option_map object (as_object d)

-- The items of an array that has at most `most`.
abbrev pub items_in : ℕ → Data → Option Items
items_in most d = do
  items ← as_array d
  then_some (nat_le (items_len items) most) items

-- Every item, as `reads` reads it.
abbrev pub all_in : {A : Type 0} → (Data → Option A) → Items → Option (List A)
all_in reads no_items = Some []
all_in reads (item d items) = do
  x ← reads d
  xs ← all_in reads items
  Some (x ∷ xs)

-- An array of at most `most` items, each as `reads` reads it.
abbrev pub list_in : {A : Type 0} → ℕ → (Data → Option A) → Data → Option (List A)
list_in most reads d = do
  items ← items_in most d
  all_in reads items

-- A member that may be absent; it is then `default`.
abbrev pub read_or : {A : Type 0} → A → (Data → Option A) → Option Data → Option A
read_or default reads None = Some default
read_or default reads (Some d) = reads d

-- A report: an object with a name, an exit status, and perhaps an output.
unfoldable pub report_in : Data → Option Report
report_in d = do
  found ← get (codes "name") d
  name ← text_in Name found
  told ← get (codes "exit_status") d
  exit_status ← status_in told
  output ← read_or [] (text_in Output) (get (codes "output") d)
  Some (record { name = name; exit_status = exit_status; output = output })

-- ---- what the members of a request say

-- A word: an authenticator, a host_cpid or a platform.
abbrev pub word_in : Data → Option (List ℕ)
word_in = text_in Word

-- The number of a host or of a call.
abbrev pub number_in : Data → Option ℕ
number_in = whole_in 0 2147483647

-- Floating-point operations a second, at least one.
abbrev pub speed_in : Data → Option ℕ
speed_in = whole_in 1 (10 ^ 18)

-- Bytes of memory or of disk.
abbrev pub size_in : Data → Option ℕ
size_in = whole_in 0 (10 ^ 18)

-- Seconds of work.
abbrev pub seconds_in : Data → Option ℕ
seconds_in = whole_in 0 1000000000

-- Platforms in addition to the host's own.
abbrev pub alternatives_in : Data → Option (List (List ℕ))
alternatives_in = list_in 7 word_in

-- The names of what the host has. If there is such a member, the request has a list, even an empty one. If not, it has none.
abbrev pub listed_in : Data → Option (Option (List (List ℕ)))
listed_in d = option_map Some (list_in 1024 (text_in Name) d)

-- What the host reports.
abbrev pub reports_in : Data → Option (List Report)
reports_in = list_in 256 report_in
