-- Words. The instances by place: all places that have an instance, those whose rows pass a test, and the statements that list them.
use Rattle.std.specs.Prelude.{◌≡◌, ◌⊎◌, ◌≤◌, ◌<◌, ℕ, ℤ, Bool, true, false, ◌&&◌, ◌||◌, ◌==◌, List, [], ◌∷◌, ◌++◌, map, filter, filter_map, codes, Option, Some, None}
use Rattle.std.specs.List.{AllByRecursion}
use Rattle.sched_book.specs.declared.instance.Place.{Place}
use Rattle.sqlite_value.specs.declared.value.Value.{Value}
use Rattle.sqlite_value.specs.declared.value.Value.TheVariants.{Null, Int}
use Rattle.sqlite_value.specs.declared.keys.Key.{Key}
use Rattle.sqlite_value.specs.declared.keys.Collation.TheVariants.{Binary}
use Rattle.sqlite_value.specs.Order.{Row, column}
use Rattle.sqlite_value.specs.Keys.{ascending}
use Rattle.sqlite_trees.specs.declared.store.Store.{Ghosts}
use Rattle.sqlite_trees.specs.Tree.{IsAscending}
use Rattle.sqlite_sql.specs.declared.ops.BinaryOp.TheVariants.{Compare, Is, Or}
use Rattle.sqlite_sql.specs.declared.ops.CompareOp.{CompareOp}
use Rattle.sqlite_sql.specs.declared.ops.CompareOp.TheVariants.{Eq, Lt, Gt, Ge}
use Rattle.sqlite_sql.specs.Ops.{is_null, is_true, binary}
use Rattle.sqlite_sql.specs.Term.{Term, lit, col, op2}
use Rattle.sqlite_sql.specs.Query.{Query}
use Rattle.sqlite_rules.specs.Lists.{Has}
use Rattle.sqlite.specs.Held.{Held}
use Rattle.table_meaning.specs.declared.tables.QueuePage.{QueuePage}
use Rattle.table_meaning.specs.declared.tables.QueuePage.TheVariants.{First, Further}
use Rattle.table_meaning.specs.declared.rows.StoredRow.{StoredRow}
use Rattle.table_meaning.specs.Rows.{whole, columns_of, instance_key}
use Rattle.table_meaning.specs.Formats.{columns_in}
use Rattle.table_meaning.specs.Reads.{read_query, Shows}
use Rattle.table_meaning.specs.Holding.{Contents}

-- ---- places

-- the instance at a place
abbrev pub instance_row_at : Contents → Place → Option StoredRow
instance_row_at contents place = contents (instance_key place.unit place.number)

-- the columns of a place
abbrev pub place_row : Place → Row
place_row place = whole place.unit ∷ whole place.number ∷ []

-- One place is before another, by the workunit and then by the number.
abbrev pub IsBefore : Place → Place → Type 0
IsBefore a b = (a.unit < b.unit) ⊎ ((a.unit ≡ b.unit) × (a.number < b.number))

-- The places rise, their workunits count from 1, and each place that has an instance is one of them.
pub record AreAllPlaces (contents : Contents) (places : List Place) : Type 0 where
  pub rise : IsAscending IsBefore places
  pub from_one : AllByRecursion (λ place. 1 ≤ place.unit) places
  pub all : (place : Place) (row : StoredRow) → instance_row_at contents place ≡ Some row → Has places place

-- the row exists, and its columns pass the test
abbrev pub shows_passing : (Row → Bool) → Option StoredRow → Bool
shows_passing test None = false
shows_passing test (Some row) = test (columns_of row)

-- the places that have an instance whose columns pass the test
abbrev pub places_with_row : Contents → (Row → Bool) → List Place → List Place
places_with_row contents test = filter (λ place. shows_passing test (instance_row_at contents place))

-- the instances of one workunit, by number
abbrev pub instances_within : Contents → ℕ → List Place → List StoredRow
instances_within contents unit places = filter_map (instance_row_at contents) (filter (λ place. place.unit == unit) places)

-- These are the places that a text shows in a transaction: the first two columns of each row.
abbrev pub ShowsPlaces : {S : Type 0} → Ghosts S → Held S → List ℕ → Row → List Place → Type 0
ShowsPlaces store old text params places = (rows : List Row) × Shows store old text params rows × (map place_row places ≡ map (λ row. columns_in row 2) rows)

-- ---- tests of the columns of an instance

-- a comparison of SQL, as WHERE takes it: false if a value is NULL
abbrev pub compares : CompareOp → Value → Value → Bool
compares op a b = is_true (binary (Compare op Binary) a b)

-- the instance was sent to this host
abbrev pub is_of_host : ℕ → Row → Bool
is_of_host host row = compares Eq (column row 2) (whole host)

-- it has no lapse and no report
abbrev pub is_running : Row → Bool
is_running row = compares Eq (column row 5) (whole 0) && is_null (column row 6)

-- this host holds it, and the moment of sending is not before 1970
abbrev pub is_row_held_by : ℕ → Row → Bool
is_row_held_by host row = is_of_host host row && (compares Ge (column row 3) (whole 0) && is_running row)

-- its place is this one or a later one
abbrev pub is_not_before : Place → Row → Bool
is_not_before place row = compares Ge (column row 0) (whole place.unit) && (compares Gt (column row 0) (whole place.unit) || compares Ge (column row 1) (whole place.number))

-- it waits to be sent, and its place is not before this one
abbrev pub waits_from : Place → Row → Bool
waits_from from row = compares Eq (column row 9) (whole 1) && is_not_before from row

-- a moment at or after one moment and before another
abbrev pub lies_between : ℤ → ℤ → Value → Bool
lies_between from until moment = compares Ge moment (Int from) && compares Lt moment (Int until)

-- it was sent to this host between these moments
abbrev pub is_sent_between : ℕ → ℤ → ℤ → Row → Bool
is_sent_between host from until row = is_of_host host row && lies_between from until (column row 3)

-- its deadline is between these moments, and it is held
abbrev pub is_due : ℤ → ℤ → Row → Bool
is_due from until row = lies_between from until (column row 4) && is_running row

-- ---- statements

-- compares the column at a place with a parameter, or with a number
abbrev pub with_param : CompareOp → ℕ → ℕ → Term
with_param op place slot = op2 (Compare op Binary) (col 1 place) (col 0 slot)

abbrev pub with_number : CompareOp → ℕ → ℕ → Term
with_number op place number = op2 (Compare op Binary) (col 1 place) (lit (whole number))

-- The workunit counts from 1 and the number from 0, as at each place. This test comes first, since a scan takes the later of two bounds of one column.
abbrev pub of_a_place : List Term
of_a_place = with_number Gt 1 0 ∷ with_number Ge 2 0 ∷ []

-- the order of places, and the order of the moment of sending, the newest first
abbrev pub by_place : List (Term × Key)
by_place = (col 1 1, ascending Binary) ∷ (col 1 2, ascending Binary) ∷ []

abbrev pub newest_first : List (Term × Key)
newest_first = (col 1 4, record { collation = Binary; descending = true }) ∷ []

-- the instances that pass the terms, shown at these columns, in this order and up to this limit
abbrev pub instance_query : List Term → List ℕ → List (Term × Key) → Term → Query
instance_query terms columns order limit = record (read_query 12 columns) { filter = of_a_place ++ terms; order = order; limit = limit }

abbrev pub within_text : List ℕ
within_text = codes "SELECT unit_id, num, host_id, sent, deadline, lapse, outcome, output, place, queued FROM instance WHERE unit_id > 0 AND num >= 0 AND unit_id = ?1 ORDER BY unit_id, num"

abbrev pub held_text : List ℕ
held_text = codes "SELECT unit_id, num FROM instance WHERE unit_id > 0 AND num >= 0 AND host_id = ?1 AND sent >= 0 AND lapse = 0 AND outcome IS NULL ORDER BY sent DESC LIMIT ?2"

abbrev pub owned_text : List ℕ
owned_text = codes "SELECT unit_id, num FROM instance WHERE unit_id > 0 AND num >= 0 AND host_id = ?1 ORDER BY unit_id, num"

-- how many places a queue page has at most
abbrev pub page_size : QueuePage → ℕ
page_size First = 8
page_size Further = 64

abbrev pub queued_text : List ℕ
queued_text = codes "SELECT unit_id, num FROM instance WHERE unit_id > 0 AND num >= 0 AND queued = 1 AND unit_id >= ?1 AND (unit_id > ?1 OR num >= ?2) ORDER BY unit_id, num LIMIT ?3"

abbrev pub sent_text : List ℕ
sent_text = codes "SELECT unit_id, num FROM instance WHERE unit_id > 0 AND num >= 0 AND host_id = ?1 AND sent >= ?2 AND sent < ?3 ORDER BY sent"

abbrev pub due_text : List ℕ
due_text = codes "SELECT unit_id, num FROM instance WHERE unit_id > 0 AND num >= 0 AND deadline >= ?1 AND deadline < ?2 AND lapse = 0 AND outcome IS NULL ORDER BY deadline"

-- the tests of WHERE in each of them, as well as the one for a place
abbrev pub within_terms : List Term
within_terms = with_param Eq 1 0 ∷ []

abbrev pub running_terms : List Term
running_terms = with_number Eq 6 0 ∷ op2 (Is Binary) (col 1 7) (lit Null) ∷ []

abbrev pub held_terms : List Term
held_terms = with_param Eq 3 0 ∷ with_number Ge 4 0 ∷ running_terms

abbrev pub owned_terms : List Term
owned_terms = with_param Eq 3 0 ∷ []

abbrev pub queued_terms : List Term
queued_terms = with_number Eq 10 1 ∷ with_param Ge 1 0 ∷ op2 Or (with_param Gt 1 0) (with_param Ge 2 1) ∷ []

abbrev pub sent_terms : List Term
sent_terms = with_param Eq 3 0 ∷ with_param Ge 4 1 ∷ with_param Lt 4 2 ∷ []

abbrev pub due_terms : List Term
due_terms = with_param Ge 5 0 ∷ with_param Lt 5 1 ∷ running_terms
