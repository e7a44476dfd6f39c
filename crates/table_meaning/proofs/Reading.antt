-- A read of a whole table shows its rows in the order of its tree.
use Rattle.std.proofs.Common.{◌≡◌, ℕ, ◌+◌, ℤ, pos, negsuc, Bool, true, false, ◌&&◌, List, [], ◌∷◌, map, map-id, drop, filter, find, length, slice_get, Option, Some, None, option_map, refl, sym, ap, ap₂, subst, ◌∙◌, Less, int_eq}
use Rattle.std.specs.List.{AllByRecursion, list_all, range_with_len}
use Rattle.std.proofs.lemmas.List.{length-map}
use Rattle.std.proofs.lemmas.Option.{slice_get-map}
use Rattle.sqlite_value.specs.declared.value.Value.TheVariants.{Null, Int}
use Rattle.sqlite_value.specs.Order.{Row, column, value_cmp}
use Rattle.sqlite_value.specs.Keys.{plain, first_key}
use Rattle.sqlite_value.proofs.OrderLemmas.{value_cmp-Int}
use Rattle.sqlite_trees.specs.declared.store.Shape.TheVariants.{Table as TableTree}
use Rattle.sqlite_trees.specs.Tree.{Trees, rowid, IsTable}
use Rattle.sqlite_trees.specs.View.{IsShaped, is_int}
use Rattle.sqlite_sql.specs.declared.ops.CompareOp.TheVariants.{Eq}
use Rattle.sqlite_sql.specs.Term.{Term, lit, col, eval, eval_all, holds}
use Rattle.sqlite_sql.specs.Program.{overlay}
use Rattle.sqlite_sql.specs.Query.{Query, IsAnswer, page}
use Rattle.sqlite_schema.specs.declared.command.Command.TheVariants.{Select}
use Rattle.sqlite_schema.specs.declared.schema.Schema.{Schema}
use Rattle.sqlite_schema.specs.Rules.{agree, equal}
use Rattle.sqlite_value.specs.declared.keys.Collation.{Collation}
use Rattle.sqlite_value.specs.declared.keys.Collation.TheVariants.{Binary}
use Rattle.sqlite_rules.specs.Edit.{id_in}
use Rattle.sqlite_rules.specs.Lists.{Has}
use Rattle.sqlite_rules.proofs.ListLemmas.{all_has}
use Rattle.sqlite_rules.proofs.TableLemmas.{int_is}
use Rattle.sqlite_keyed.specs.Keyed.{IsKeyedBy}
use Rattle.sqlite_keyed.proofs.ListLemmas.{map-map, map_same, ascending_from_map, ascending_weaker, filter-map, slice_get-filter}
use Rattle.sqlite_keyed.proofs.KeyedLemmas.{lt_from_Less, same_int}
use Rattle.sqlite_typed.proofs.AnswerLemmas.{at_end, last_table, answer_by_keys, unfiltered}
use Rattle.sqlite_typed.proofs.TestLemmas.{at_ints, last_key, last_term}
use Rattle.sqlite.specs.State.{State, Shown}
use Rattle.sqlite.proofs.Callers.{reads_as}
use Rattle.table_meaning.specs.declared.tables.TableName.{TableName}
use Rattle.table_meaning.specs.declared.tables.TableName.TheVariants.{Unit}
use Rattle.table_meaning.specs.Schema.{stored_schema}
use Rattle.table_meaning.specs.Texts.{read_text, key_text}
use Rattle.table_meaning.specs.Rows.{tree_of, places_of, key_places, shown, rows_in, whole, RowKey, unit_key, table_at, key_columns, has_key, look_up}
use Rattle.table_meaning.specs.Reads.{read_query}
use Rattle.table_meaning.specs.ByKey.{status_text, status_in, key_tests, key_query}
use Rattle.table_meaning.specs.Formats.{columns_in}
use Rattle.table_meaning.specs.Holding.{AreKnown}
use Rattle.table_meaning.proofs.ByComputing.{names_of, ReadsByKeyIn, computed}
use Rattle.table_meaning.proofs.ByKey.{status_is_read}
use Rattle.table_meaning.proofs.FormatLemmas.{whole_row as whole_columns}
use Rattle.table_meaning.proofs.EachRow.{key_is}

-- a row of a tree as its number and its columns
abbrev pub Numbered : Type 0
Numbered = ℤ × Row

abbrev pub as_row : Numbered → Row
as_row n = Int n.0 ∷ n.1

abbrev pub parted : Row → Numbered
parted r = (id_in (rowid r), drop 1 r)

whole_row : (r : Row) → is_int (rowid r) ≡ true → r ≡ as_row (parted r)
whole_row [] h = absurd (let e : is_int Null ≡ true = h in cc)
whole_row (v ∷ r) h = ap (λ u. u ∷ r) (int_is v h)

pub as_rows : (rows : List Row) → AllByRecursion (λ r. is_int (rowid r) ≡ true) rows → rows ≡ map as_row (map parted rows)
as_rows [] h = refl
as_rows (r ∷ rows) h = ap₂ ◌∷◌ (whole_row r h.0) (as_rows rows h.1)

pub numbers_rise : (xs : List Numbered) → IsTable (map as_row xs) → IsKeyedBy (λ n. n.0) xs
numbers_rise xs up = ascending_weaker _ _ (λ a b h. lt_from_Less _ _ (sym (value_cmp-Int a.0 b.0) ∙ h)) xs (ascending_from_map (λ a b. value_cmp (rowid a) (rowid b) ≡ Less) as_row xs up)

-- the row has this number
abbrev pub is_of : ℕ → Row → Bool
is_of n r = agree plain (0 ∷ []) r (0 ∷ []) (whole n ∷ [])

module _ (rows : List Row) (shaped : IsShaped TableTree rows) (n : ℕ) (x : Row) (has : Has rows x) where
  pub int_number : rowid x ≡ Int (id_in (rowid x))
  int_number = int_is (rowid x) (all_has _ rows x shaped.1 has)

  pub is_of_int : is_of n x ≡ int_eq (id_in (rowid x)) (pos n)
  unfolding first_key
  is_of_int = last_term (ap (λ v. equal Binary v (whole n)) int_number ∙ at_ints false Eq (id_in (rowid x)) (pos n))

  pub number_is : is_of n x ≡ true → rowid x ≡ whole n
  number_is same = int_number ∙ ap Int (same_int _ _ (sym is_of_int ∙ same))

-- the values of some terms for the rows of a tree that pass others, in the order of the tree and up to a limit
abbrev pub projecting_query : ℕ → List Term → List Term → List Collation → Term → Query
projecting_query tree terms project collations limit = record (read_query tree []) { filter = terms; project = project; collations = collations; limit = limit }

-- the rows of a tree that pass terms, shown at these places
abbrev pub passing_query : ℕ → List Term → List ℕ → Query
passing_query tree terms places = record (read_query tree places) { filter = terms }

module _ (db : Trees) (tree : ℕ) (terms : List Term) (params : Row) (p : Row → Bool) (own : overlay db [] tree ≡ db tree) (shaped : IsShaped TableTree (db tree))
    (tests : (n : Numbered) → list_all (holds (params ∷ as_row n ∷ [])) terms ≡ p (as_row n)) where
  pub projected_rows : (project : List Term) (collations : List Collation) (limit : Term) (rows : List Row) → IsAnswer (projecting_query tree terms project collations limit) (overlay db []) params rows
      → rows ≡ page (projecting_query tree terms project collations limit) params (map (λ r. eval_all project (params ∷ r ∷ [])) (filter p (db tree)))
  projected_rows project collations limit rows answer =
      let query = projecting_query tree terms project collations limit in
      let xs = map parted (db tree) in
      let is : db tree ≡ map as_row xs = as_rows (db tree) shaped.1 in
      let source = last_table (overlay db []) tree as_row (λ n. n.0) xs (own ∙ is) (numbers_rise xs (subst IsTable is shaped.0)) (at_end (overlay db [])) in
      let show = λ (r : Row). eval_all project (params ∷ r ∷ []) in
      let found = answer_by_keys query (overlay db []) params source (λ n. p (as_row n)) tests (λ r. r) (λ n. show (as_row n)) (λ n. refl) refl refl (λ a b. last_key (value_cmp-Int a.0 b.0)) rows answer in
      sym (map-id rows) ∙ found
      ∙ ap (page query params) (sym (map-map show as_row (filter (λ n. p (as_row n)) xs)) ∙ ap (map show) (sym (filter-map p as_row xs)) ∙ sym (ap (λ l. map show (filter p l)) is))

  pub passing_rows : (places : List ℕ) (rows : List Row) → IsAnswer (passing_query tree terms places) (overlay db []) params rows → rows ≡ map (λ r. map (column r) places) (filter p (db tree))
  passing_rows places rows answer =
      projected_rows (map (col 1) places) [] (lit (Int (negsuc 0))) rows answer ∙ map_same _ (λ r. map (column r) places) (λ r. map-map (λ t. eval t (params ∷ r ∷ [])) (col 1) places) (filter p (db tree))

pub own_rows : (t : TableName) (db : Trees) → overlay db [] (tree_of t) ≡ db (tree_of t)
own_rows t = (computed t).own

pub shown_rows : (t : TableName) (old new : State) → AreKnown old.now → (rows : List Row) → Shown (read_text t) [] old new rows → rows ≡ rows_in old.now.trees t
shown_rows t old new known rows h =
    let meaning = (computed t).reads in
    let read = reads_as (read_text t) [] old new stored_schema known.schema (Select (record { lets = []; body = read_query (tree_of t) (places_of t) }) (names_of t)) meaning.0 meaning.1 meaning.2 rows h in
    passing_rows old.now.trees (tree_of t) [] [] (λ _. true) (own_rows t old.now.trees) (known.ordered t) (λ _. refl) (places_of t) rows (read.answer Null) ∙ ap (map (shown t)) (unfiltered (old.now.trees (tree_of t)) refl)

-- ---- the row at a key

module _ (db : Trees) (tree : ℕ) (key places : List ℕ) (params : Row) (p : Row → Bool) (own : overlay db [] tree ≡ db tree) (shaped : IsShaped TableTree (db tree))
    (tests : (n : Numbered) → list_all (holds (params ∷ as_row n ∷ [])) (key_tests 0 key) ≡ p (as_row n)) where
  key_rows : (rows : List Row) → IsAnswer (key_query tree key places) (overlay db []) params rows → slice_get rows 0 ≡ option_map (λ r. map (column r) places) (find p (db tree))
  key_rows rows answer =
      let show = λ (r : Row). map (column r) places in
      ap (λ l. slice_get l 0) (passing_rows db tree (key_tests 0 key) params p own shaped tests places rows answer) ∙ slice_get-map show (filter p (db tree)) 0 ∙ ap (option_map show) (slice_get-filter p (db tree))

-- columns that a function leaves as they are
kept_same : (show same : Row → Row) → ((r : Row) → same (show r) ≡ show r) → (found : Option Row) → option_map same (option_map show found) ≡ option_map show found
kept_same show same is None = refl
kept_same show same is (Some r) = ap Some (is r)

-- the first row that the text shows has all columns of the row at the key
abbrev pub ShowsAt : RowKey → Type 1
ShowsAt key =
    (old new : State) → AreKnown old.now → (rows : List Row) → Shown (key_text (table_at key)) (key_columns key) old new rows
    → option_map (λ r. columns_in r (length (places_of (table_at key)))) (slice_get rows 0) ≡ look_up old.now.trees key

-- the terms that test a key are SQL's comparison of its columns
pub tests_key : (places : List ℕ) (slot : ℕ) (params row : Row) → list_all (holds (params ∷ row ∷ [])) (key_tests slot places) ≡ agree plain places row (range_with_len slot (length places)) params
unfolding first_key
tests_key [] slot params row = refl
tests_key (place ∷ places) slot params row = ap (λ b. equal Binary (column row place) (column params slot) && b) (tests_key places (slot + 1) params row)

-- given a key as parameters, a text that reads by key shows first what the row at the key has at its places
shown_first : (schema : Schema) (key : RowKey) (places : List ℕ) (names : List (List ℕ)) (text : List ℕ) → ReadsByKeyIn schema (table_at key) places names text → (old new : State) → old.now.schema ≡ schema
    → IsShaped TableTree (old.now.trees (tree_of (table_at key))) → (rows : List Row) → Shown text (key_columns key) old new rows
    → slice_get rows 0 ≡ option_map (λ r. map (column r) places) (find (has_key key) (old.now.trees (tree_of (table_at key))))
shown_first schema key places names text meaning old new known shaped rows h =
    let t = table_at key in
    let read = reads_as text (key_columns key) old new schema known _ meaning.0 meaning.1 meaning.2 rows h in
    let tests = λ (n : Numbered). tests_key (key_places t) 0 (key_columns key) (as_row n) ∙ ap (λ width. agree plain (key_places t) (as_row n) (range_with_len 0 width) (key_columns key)) (key_is key).2 in
    key_rows old.now.trees (tree_of t) (key_places t) places (key_columns key) (has_key key) (own_rows t old.now.trees) shaped tests rows (read.answer Null)

-- the text of its table shows all columns
pub row_shown_at : (key : RowKey) → ShowsAt key
row_shown_at key old new known rows h =
    let t = table_at key in
    let count = length (places_of t) in
    ap (option_map (λ r. columns_in r count)) (shown_first stored_schema key (places_of t) (names_of t) (key_text t) (computed t).reads_key old new known.schema (known.ordered t) rows h)
    ∙ kept_same _ (λ r. columns_in r count) (λ r. whole_columns (shown t r) count (length-map (places_of t) (column r))) _

-- ---- some columns of the row

-- what `pick` gives for the columns shown is what `from` gives for all columns
picked : {X : Type 0} (show all : Row → Row) (pick from : Row → X) → ((r : Row) → pick (show r) ≡ from (all r)) → (found : Option Row) → option_map pick (option_map show found) ≡ option_map from (option_map all found)
picked show all pick from is None = refl
picked show all pick from is (Some r) = ap Some (is r)

-- one column alone
pub column_shown_at : (schema : Schema) (key : RowKey) (place at : ℕ) → ((r : Row) → column r place ≡ column (shown (table_at key) r) at) → (names : List (List ℕ)) (text : List ℕ)
    → ReadsByKeyIn schema (table_at key) (place ∷ []) names text → (old new : State) → old.now.schema ≡ schema → IsShaped TableTree (old.now.trees (tree_of (table_at key))) → (rows : List Row)
    → Shown text (key_columns key) old new rows → option_map (λ r. column r 0) (slice_get rows 0) ≡ option_map (λ r. column r at) (look_up old.now.trees key)
column_shown_at schema key place at is names text meaning old new known shaped rows h =
    ap (option_map (λ r. column r 0)) (shown_first schema key (place ∷ []) names text meaning old new known shaped rows h) ∙ picked _ _ (λ r. column r 0) (λ r. column r at) is _

pub status_shown_at : (unit : ℕ) (old new : State) → AreKnown old.now → (rows : List Row) → Shown status_text (whole unit ∷ []) old new rows
    → option_map (λ r. column r 0) (slice_get rows 0) ≡ option_map status_in (look_up old.now.trees (unit_key unit))
status_shown_at unit old new known rows h = column_shown_at stored_schema (unit_key unit) 14 13 (λ r. refl) _ status_text status_is_read old new known.schema (known.ordered Unit) rows h
