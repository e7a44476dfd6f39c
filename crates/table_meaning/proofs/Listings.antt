-- The rows of a table that pass a test are the rows at its keys, in turn, that pass.
use Rattle.std.proofs.Common.{◌≡◌, ◌⊎◌, ℕ, zero, suc, ◌+◌, ◌≤◌, ◌<◌, pos, Bool, true, false, ◌&&◌, List, [], ◌∷◌, map, filter, find, slice_get, codes, Option, Some, None, option_map, refl, sym, ap, ap₂, ◌∙◌, inl, inr, arith, Less, Greater, int_cmp, int_lt}
use Rattle.std.specs.Prelude.{filter_map}
use Rattle.std.specs.List.{AllByRecursion, list_all, range_with_len}
use Rattle.std.specs.Ordering.{ordering_reverse}
use Rattle.std.proofs.lemmas.Int.{ints}
use Rattle.std.proofs.lemmas.Option.{none-some, slice_get-map}
use Rattle.sqlite_value.specs.declared.value.Value.TheVariants.{Null}
use Rattle.sqlite_value.specs.Order.{Row, column, value_cmp}
use Rattle.sqlite_value.proofs.OrderLemmas.{value_cmp-Int, value_cmp_total}
use Rattle.sqlite_trees.specs.declared.store.Shape.TheVariants.{Table as TableTree}
use Rattle.sqlite_trees.specs.Tree.{Trees, rowid, IsAscending}
use Rattle.sqlite_trees.specs.View.{IsShaped}
use Rattle.sqlite_sql.specs.declared.ops.CompareOp.TheVariants.{Gt}
use Rattle.sqlite_sql.specs.Term.{Term, holds}
use Rattle.sqlite_sql.specs.Program.{overlay}
use Rattle.sqlite_sql.specs.Query.{IsAnswer}
use Rattle.sqlite_schema.specs.declared.command.Command.TheVariants.{Select}
use Rattle.sqlite_rules.specs.Edit.{id_in}
use Rattle.sqlite_rules.specs.Lists.{Has}
use Rattle.sqlite_rules.proofs.ListLemmas.{all_from}
use Rattle.sqlite_keyed.proofs.ListLemmas.{map-map, filter_all, filter-map, map_same}
use Rattle.sqlite_typed.proofs.TestLemmas.{at_ints, then_term, last_term}
use Rattle.sqlite_tied.specs.Compute.{everything}
use Rattle.sqlite.specs.Effect.{Database}
use Rattle.sqlite.specs.State.{State, Shown}
use Rattle.sqlite.specs.Listing.{understood, reads_listing}
use Rattle.sqlite.proofs.Callers.{IsPlain, command_of, reads_as}
use Rattle.table_meaning.specs.declared.tables.TableName.{TableName}
use Rattle.table_meaning.specs.declared.tables.TableName.TheVariants.{Setting, Host, Instance, Kept, Batch}
use Rattle.table_meaning.specs.declared.rows.StoredRow.{StoredRow}
use Rattle.table_meaning.specs.Layouts.{numbered}
use Rattle.table_meaning.specs.Schema.{stored_schema}
use Rattle.table_meaning.specs.Rows.{tree_of, shown, rows_in, whole, columns_of, RowKey, table_at, key_columns, has_key}
use Rattle.table_meaning.specs.Holding.{AreKnown, Contents, Hold}
use Rattle.table_meaning.specs.Listings.{is_numbered, rows_where, existing_rows, listing_query, is_first, credits_text, is_of_user, credit_in}
use Rattle.table_meaning.proofs.Columns.{key_by}
use Rattle.table_meaning.proofs.EachRow.{number_in, key_from, key_of_table}
use Rattle.table_meaning.proofs.Enumerated.{is_at, shown_at, found_at, there, back}
use Rattle.table_meaning.proofs.PlacesLists.{filter-passed, one_ascending, ascending-filter_map}
use Rattle.table_meaning.proofs.Reading.{as_row, is_of, number_is, own_rows, passing_rows}

-- ---- numbers in a row

from_range : (count from n : ℕ) → Has (range_with_len from count) n → from ≤ n
from_range zero from n has = absurd has
from_range (suc count) from n (inl same) = omega (arith, same)
from_range (suc count) from n (inr later) = omega (arith, from_range count (from + 1) n later)

range_rises : (count from : ℕ) → IsAscending (λ a b. a < b) (range_with_len from count)
range_rises zero from = tt
range_rises (suc count) from = (all_from (λ n. from < n) (range_with_len (from + 1) count) (λ n has. omega (arith, from_range count (from + 1) n has)), range_rises count (from + 1))

pub here_or_later : (from n : ℕ) → from ≤ n → (n ≡ from) ⊎ (from < n)
here_or_later from n le = grind arith

pub in_range : (count from n : ℕ) → from ≤ n → n < from + count → Has (range_with_len from count) n
in_range zero from n le lt = absurd (omega (arith, le, lt))
in_range (suc count) from n le lt = elim (here_or_later from n le) [ inl here ↦ inl here | inr later ↦ inr (in_range count (from + 1) n (omega (arith, later)) (omega (arith, lt))) ]

-- ---- the rows of a table that is keyed by one number

-- The keys of the table are numbers, and SQL compares them with those of the rows.
pub record IsByNumber (t : TableName) (key : ℕ → RowKey) : Type 0 where
  pub at : (n : ℕ) → table_at (key n) ≡ t
  pub is : (n : ℕ) (r : Row) → has_key (key n) r ≡ is_of n r
  pub all : (k : RowKey) → table_at k ≡ t → k ≡ key (number_in (column (key_columns k) 0))

pub keyed_by_number : (t : TableName) → key_by t ≡ numbered → IsByNumber t (λ n. key_from t (whole n ∷ []))
keyed_by_number Setting is = absurd (cc)
keyed_by_number Instance is = absurd (cc)
keyed_by_number Kept is = absurd (cc)
keyed_by_number Batch is = absurd (cc)
keyed_by_number t is = record { at = λ n. refl; is = λ n r. refl; all = key_of_table t }

-- a row is not before one that is before it
never_both : (x y : Row) → value_cmp (rowid x) (rowid y) ≡ Less → value_cmp (rowid y) (rowid x) ≡ Less → ⊥
never_both x y less more =
    let clash : Less ≡ Greater = sym less ∙ value_cmp_total.antisymm (rowid x) (rowid y) ∙ ap ordering_reverse more in cc

module _ (t : TableName) (key : ℕ → RowKey) (by : IsByNumber t key) (db : Database) (contents : Contents) (holds : Hold db contents) (count : ℕ)
    (at_zero : contents (key 0) ≡ None) (none : (n : ℕ) → count < n → contents (key n) ≡ None) where
  abbrev rows : List Row
  rows = db.trees (tree_of t)

  abbrev found : ℕ → Option Row
  found n = find (has_key (key n)) rows

  abbrev numbers : List ℕ
  numbers = range_with_len 1 count

  among : (n : ℕ) (row : StoredRow) → contents (key n) ≡ Some row → Has numbers n
  among zero row is = absurd (none-some row (sym at_zero ∙ is))
  among (suc n) row is = elim (past_or_within (suc n)) [
    | inl past ↦ absurd (none-some row (sym (none (suc n) past) ∙ is))
    | inr within ↦ in_range count 1 (suc n) (omega arith) (omega (arith, within))
  ]
    where
      past_or_within : (m : ℕ) → (count < m) ⊎ (m ≤ count)
      past_or_within m = grind arith

  all_numbers : (k : RowKey) (row : StoredRow) → table_at k ≡ t → contents k ≡ Some row → (n : ℕ) × Has numbers n × (k ≡ key n)
  all_numbers k row same stands =
      let n = number_in (column (key_columns k) 0) in
      let is : k ≡ key n = by.all k same in
      (n, among n row (sym (ap contents is) ∙ stands), is)

  number : (n : ℕ) (r : Row) → found n ≡ Some r → rowid r ≡ whole n
  number n r is = let it = is_at db contents holds t key by.at n r is in number_is rows (holds.known.ordered t) n r it.here (sym (by.is n r) ∙ it.own)

  lower : (a b : ℕ) (x y : Row) → a < b → found a ≡ Some x → found b ≡ Some y → value_cmp (rowid x) (rowid y) ≡ Less
  lower a b x y before some other =
      ap₂ value_cmp (number a x some) (number b y other) ∙ value_cmp-Int (pos a) (pos b) ∙ (let less : int_cmp (pos a) (pos b) ≡ Less = grind (arith, ints) in less)

  in_turn : rows ≡ filter_map found numbers
  in_turn =
      one_ascending (λ x y. value_cmp (rowid x) (rowid y) ≡ Less) never_both rows (filter_map found numbers) (holds.known.ordered t).0
      (ascending-filter_map found (λ a b. a < b) (λ x y. value_cmp (rowid x) (rowid y) ≡ Less) lower numbers (range_rises count 1))
      (there db contents holds t key by.at numbers all_numbers) (back db contents holds t key by.at numbers all_numbers)

  each_numbered : AllByRecursion (λ r. is_numbered r ≡ true) rows
  each_numbered = all_from (λ r. is_numbered r ≡ true) rows (λ r has.
      let n = found_at db contents holds t key by.at numbers all_numbers r has in
      ap (λ v. int_lt (pos 0) (id_in v)) (number n.0 r n.2) ∙ above n.0 (from_range count 1 n.0 n.1))
    where
      above : (n : ℕ) → 1 ≤ n → int_lt (pos 0) (pos n) ≡ true
      above n le = grind (arith, ints)

  -- All of them are the rows at the keys 1, 2, .. in turn.
  pub all_listed : rows_in db.trees t ≡ map columns_of (existing_rows contents key 1 count)
  all_listed = ap (map (shown t)) in_turn ∙ shown_at db contents holds t key by.at numbers

  -- Those with a number above 0 that pass a test are the rows at these keys that pass.
  pub listed : (test : Row → Bool) → rows_where db.trees t test ≡ filter test (map columns_of (existing_rows contents key 1 count))
  listed test =
      ap (map (shown t)) (filter-passed (λ r. test (shown t r)) is_numbered rows ∙ ap (filter (λ r. test (shown t r))) (filter_all is_numbered rows each_numbered))
      ∙ sym (filter-map test (shown t) rows) ∙ ap (filter test) all_listed

-- ---- what a statement lists

-- what `pick` gives for each row that the text shows is what `from` gives for each row that passes, with all its columns
abbrev pub Lists : {X : Type 0} → List ℕ → Row → (Row → X) → TableName → (Row → Bool) → (Row → X) → Type 1
Lists text params pick t test from = (old new : State) → AreKnown old.now → (rows : List Row) → Shown text params old new rows → map pick rows ≡ map from (rows_where old.now.trees t test)

-- and the same for the first row
abbrev pub ListsFirst : {X : Type 0} → List ℕ → Row → (Row → X) → TableName → (Row → Bool) → (Row → X) → Type 1
ListsFirst text params pick t test from =
    (old new : State) → AreKnown old.now → (rows : List Row) → Shown text params old new rows → option_map pick (slice_get rows 0) ≡ option_map from (slice_get (rows_where old.now.trees t test) 0)

-- the text lists these columns of the rows that pass the terms
abbrev pub IsListed : TableName → List Term → List ℕ → List (List ℕ) → List ℕ → Type 0
IsListed t terms places names text = (command_of (understood stored_schema text) ≡ Select (record { lets = []; body = listing_query (tree_of t) terms places }) names) × IsPlain (understood stored_schema text)
    × (reads_listing stored_schema text ≡ false)

module _ (t : TableName) (terms : List Term) (places : List ℕ) (params : Row) (test : Row → Bool) (tests : (r : Row) → list_all (holds (params ∷ r ∷ [])) terms ≡ test (shown t r)) {X : Type 0} (pick from : Row → X)
    (same : (r : Row) → pick (map (column r) places) ≡ from (shown t r)) where
  -- what `pick` gives for the rows that it shows is what `from` gives for the rows that pass, with all their columns
  listed_rows : (trees : Trees) → IsShaped TableTree (trees (tree_of t)) → (rows : List Row) → IsAnswer (listing_query (tree_of t) terms places) (overlay trees []) params rows → map pick rows ≡ map from (rows_where trees t test)
  listed_rows trees shaped rows answer =
      let p = λ (r : Row). is_numbered r && test (shown t r) in
      let found = passing_rows trees (tree_of t) _ params p (own_rows t trees) shaped (λ n. then_term (at_ints false Gt n.0 (pos 0)) (tests (as_row n))) places rows answer in
      let kept = filter p (trees (tree_of t)) in
      ap (map pick) found ∙ map-map pick (λ r. map (column r) places) kept ∙ map_same _ (λ r. from (shown t r)) same kept ∙ sym (map-map from (shown t) kept)

  module _ (names : List (List ℕ)) (text : List ℕ) (meaning : IsListed t terms places names text) where
    pub listed_by : Lists text params pick t test from
    listed_by old new known rows h =
        let read = reads_as text params old new stored_schema known.schema _ meaning.0 meaning.1 meaning.2 rows h in
        listed_rows old.now.trees (known.ordered t) rows (read.answer Null)

    pub first_listed_by : ListsFirst text params pick t test from
    first_listed_by old new known rows h = sym (slice_get-map pick rows 0) ∙ ap (λ l. slice_get l 0) (listed_by old new known rows h) ∙ slice_get-map from (rows_where old.now.trees t test) 0

credits_are_listed : IsListed Host (is_first 2 ∷ []) (10 ∷ []) (codes "credit" ∷ []) credits_text
unfolding understood everything
credits_are_listed = (refl, (refl, refl), refl)

pub credits_shown : (account : ℕ) → Lists credits_text (whole account ∷ []) (λ r. column r 0) Host (is_of_user account) credit_in
credits_shown account = listed_by Host (is_first 2 ∷ []) (10 ∷ []) (whole account ∷ []) (is_of_user account) (λ r. last_term refl) (λ r. column r 0) credit_in (λ r. refl) _ _ credits_are_listed
