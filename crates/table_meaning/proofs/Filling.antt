-- What the fills of an upgrade do to the tables, one row after another.
use Rattle.std.proofs.Common.{◌≡◌, ◌≢◌, ℕ, ◌+◌, ◌≤◌, ◌<◌, ℤ, pos, negsuc, Bool, true, false, cond, List, [], ◌∷◌, map, filter, find, Option, Some, None, option_map, unwrap_or, Ok, refl, sym, ap, subst, ◌∙◌, inl, inr, true≢false, arith, nat_lt, is_eq}
use Rattle.std.specs.Prelude.{◌==◌}
use Rattle.std.specs.List.{AllByRecursion}
use Rattle.std.proofs.lemmas.Bool.{cases_Bool, both_ways, false_from_ne_true, eqb-true, eq-eqb}
use Rattle.std.proofs.lemmas.Option.{none-some}
use Rattle.sqlite_value.specs.declared.value.Value.TheVariants.{Int}
use Rattle.sqlite_value.specs.declared.keys.Collation.TheVariants.{Binary}
use Rattle.sqlite_value.specs.Order.{Row, column, value_cmp}
use Rattle.sqlite_value.specs.Keys.{plain}
use Rattle.sqlite_trees.specs.declared.store.Shape.TheVariants.{Table as TableTree}
use Rattle.sqlite_trees.specs.Tree.{Trees, rowid}
use Rattle.sqlite_trees.specs.View.{IsShaped}
use Rattle.sqlite_sql.specs.Term.{lit}
use Rattle.sqlite_schema.specs.declared.schema.Keys.TheVariants.{Enforced}
use Rattle.sqlite_schema.specs.Rules.{agree}
use Rattle.sqlite_rules.specs.declared.error.Rowids.TheVariants.{Chosen}
use Rattle.sqlite_rules.specs.Edit.{id_in, edit_of, Applies}
use Rattle.sqlite_rules.specs.Lists.{Has}
use Rattle.sqlite_rules.proofs.KeyLemmas.{agree_back}
use Rattle.sqlite_rules.proofs.ListLemmas.{all_from}
use Rattle.sqlite_keyed.proofs.ListLemmas.{filter_none, map_same}
use Rattle.sqlite_value.proofs.OrderLemmas.{value_cmp-Int}
use Rattle.sqlite.specs.Effect.{Database, IsDatabase}
use Rattle.sqlite.specs.State.{State, Executes}
use Rattle.table_meaning.specs.declared.tables.Fill.{Fill}
use Rattle.table_meaning.specs.declared.tables.TableName.{TableName}
use Rattle.table_meaning.specs.declared.rows.StoredRow.{StoredRow}
use Rattle.table_meaning.specs.Layouts.{Layout, former_kept, column_places}
use Rattle.table_meaning.specs.Schema.{schema_at, table_by, table_place}
use Rattle.table_meaning.specs.Rows.{tree_of, key_places, shown, table_of, columns_of, RowKey, whole, table_at, row_key_of, slots_of, key_columns, has_key, same_row_key, look_up}
use Rattle.table_meaning.specs.ByKey.{key_tests}
use Rattle.table_meaning.specs.Holding.{AreApart, Contents, HaveKeys, with_row}
use Rattle.table_meaning.specs.Schemas.{has_tree, has_table, HoldAt}
use Rattle.table_meaning.specs.Fills.{source_of, target_of, schema_with, filled_key, filled_from, filled_row, filled_columns, fill_text, NumberedRows, Keeps, AreFit, below, IsNextRow, with_filled, OthersStay, Filled, Fills, FillsAll, HostCalls, former_columns, KeepCalls}
use Rattle.table_meaning.proofs.Columns.{key_by, source_by}
use Rattle.table_meaning.proofs.EachSchema.{fill_terms, fill_query, of_fill, key_back}
use Rattle.table_meaning.proofs.Inserting.{inserts, one_inserted}
use Rattle.table_meaning.proofs.Keys.{one_key, key_itself}
use Rattle.table_meaning.proofs.LookUps.{hold_put_at}
use Rattle.table_meaning.proofs.PutFacts.{facts}
use Rattle.table_meaning.proofs.Putting.{behind, IsNumbered}
use Rattle.table_meaning.proofs.PutRows.{agree_from, only}
use Rattle.table_meaning.proofs.Reading.{as_row, is_of, int_number, is_of_int, number_is, projected_rows, tests_key}
use Rattle.table_meaning.proofs.RowsHeld.{found}
use Rattle.table_meaning.proofs.SchemaTables.{at_tree, each_tree, hold_at_same}
use Rattle.table_meaning.proofs.Statements.{no_acts}
use Rattle.table_meaning.proofs.EachRow.{typed}
use Rattle.table_meaning.proofs.TypedRows.{row_key_shown}

-- ---- the key of a filled row

-- the key is one of the filled table
pub key_target : (f : Fill) (key : RowKey) (n : ℕ) → filled_from f key ≡ Some n → table_at key ≡ target_of f
key_target f key n is = ap table_at (key_back f key n is ∙ sym ((of_fill f).row_key n [])) ∙ (of_fill f).row_table n []

-- ---- the rows that are there

module _ (f : Fill) (contents : Contents) where
  with_same : (one other : NumberedRows) → ((n : ℕ) → one n ≡ other n) → (key : RowKey) → with_filled f contents one key ≡ with_filled f contents other key
  with_same one other same key = elim (filled_from f key) as (λ o. unwrap_or (option_map (λ n. option_map (filled_row f n) (one n)) o) (contents key) ≡ unwrap_or (option_map (λ n. option_map (filled_row f n) (other n)) o) (contents key)) [
    | None ↦ refl
    | Some n ↦ ap (option_map (filled_row f n)) (same n)
  ]

  hold_rows : (db : Database) (one other : NumberedRows) → ((n : ℕ) → one n ≡ other n) → HoldAt (schema_with f) db (with_filled f contents one) → HoldAt (schema_with f) db (with_filled f contents other)
  hold_rows db one other same = hold_at_same (schema_with f) db _ _ (λ key is. with_same one other same key)

-- no row has a number between
below_same : (from end : ℕ) (rows : NumberedRows) → from ≤ end → ((n : ℕ) → from ≤ n → n < end → rows n ≡ None) → (n : ℕ) → below from rows n ≡ below end rows n
below_same from end rows le none n = go (nat_lt n from) refl (nat_lt n end) refl
  where
    go : (a : Bool) → nat_lt n from ≡ a → (b : Bool) → nat_lt n end ≡ b → below from rows n ≡ below end rows n
    go true low true early = rw (low, early) refl
    go true low false late = absurd (true≢false (sym low ∙ (let e : nat_lt n from ≡ false = grind arith in e)))
    go false high true early = rw (high, early) (sym (none n (grind arith) (grind arith)))
    go false high false late = rw (high, late) refl

all_below : (from : ℕ) (rows : NumberedRows) → ((n : ℕ) → from ≤ n → rows n ≡ None) → (n : ℕ) → below from rows n ≡ rows n
all_below from rows none n = go (nat_lt n from) refl
  where
    go : (a : Bool) → nat_lt n from ≡ a → below from rows n ≡ rows n
    go true low = rw low refl
    go false high = rw high (sym (none n (grind arith)))

pub skipped : (f : Fill) (from next : ℕ) (db : Database) → IsNextRow (source_of f) db.trees from (Some next) → Fills f from next db db
skipped f from next db is start contents rows fit filled = record {
  holds = hold_rows f contents db (below from rows) (below next rows) (below_same from next rows is.0 (λ n le lt. sym (filled.kept.kept n) ∙ is.1 n le lt)) filled.holds;
  kept = filled.kept;
  others = filled.others;
}

pub all_filled : (f : Fill) (from : ℕ) (db : Database) → IsNextRow (source_of f) db.trees from None → FillsAll f from db db
all_filled f from db is start contents rows fit filled = record {
  holds = hold_rows f contents db (below from rows) rows (all_below from rows (λ n le. sym (filled.kept.kept n) ∙ is n le)) filled.holds;
  others = filled.others;
}

-- ---- before the first

pub begun : (f : Fill) (db : Database) (contents : Contents) (rows : NumberedRows) → HoldAt (schema_with f) db contents → ((key : RowKey) → table_at key ≡ target_of f → contents key ≡ None) → Keeps (source_of f) db.trees rows
    → Filled f 0 db db contents rows
begun f db contents rows holds none kept = record {
  holds = hold_at_same (schema_with f) db _ _ (λ key is. go key (filled_from f key) refl) holds;
  kept = kept;
  others = λ tree has apart. refl;
}
  where
    go : (key : RowKey) (o : Option ℕ) → filled_from f key ≡ o → contents key ≡ unwrap_or (option_map (λ n. option_map (filled_row f n) (below 0 rows n)) o) (contents key)
    go key None is = refl
    go key (Some n) is =
        let low : nat_lt n 0 ≡ false = grind arith in
        rw low (none key (key_target f key n is))

-- ---- one row

keeps_rows : (l : Layout) (old new : Trees) (rows : NumberedRows) → new l.tree ≡ old l.tree → Keeps l old rows → Keeps l new rows
keeps_rows l old new rows same kept = record {
  ordered = subst (IsShaped TableTree) (sym same) kept.ordered;
  kept = λ n. ap (λ all. option_map (λ row. map (column row) (column_places l)) (find (is_of n) all)) same ∙ kept.kept n;
}

-- a fill keeps the calls of the first schema
pub calls_stay : (f : Fill) (start now : Trees) → OthersStay f start now → (calls : HostCalls) → KeepCalls start calls → KeepCalls now calls
calls_stay f start now others calls kept =
    let stays = keeps_rows former_kept start now (λ host. option_map (former_columns host) (calls host)) (others former_kept.tree (of_fill f).calls_stand (of_fill f).calls_apart) (record { ordered = kept.ordered; kept = kept.kept }) in
    record { ordered = stays.ordered; kept = stays.kept }

-- no row is put
hold_unchanged : (m : ℕ) (t : TableName) (old new : Database) → new.schema ≡ schema_at m → IsDatabase new → Applies (schema_at m) Enforced old.trees (edit_of old.trees (table_by t) [] Chosen 0 []) new.trees → (contents : Contents)
    → HoldAt m old contents → HoldAt m new contents
hold_unchanged m t old new schema sound applies contents holds = record {
  known = record {
    schema = schema;
    sound = sound;
    ordered = each_ordered;
    apart = λ name is. subst (AreApart (key_places name)) (sym (same (tree_of name) is)) (holds.known.apart name is);
  };
  rows = λ key is. ap (λ rows. option_map (shown (table_at key)) (find (has_key key) rows)) (same (tree_of (table_at key)) is) ∙ holds.rows key is;
  keyed = λ name is. subst (HaveKeys name) (sym (same (tree_of name) is)) (holds.keyed name is);
}
  where
    same : (tree : ℕ) → has_tree m tree ≡ true → new.trees tree ≡ old.trees tree
    same tree is = elim (cases_Bool (tree == tree_of t)) [
      | inl here ↦ subst (λ tree. new.trees tree ≡ old.trees tree) (sym (eqb-true _ _ here)) applies.rows
      | inr other ↦ at_tree m (λ tree. tree ≢ tree_of t → new.trees tree ≡ old.trees tree) applies.tables tree is (λ here. both_ways _ other (eq-eqb _ _ here))
    ]

    each_ordered : AllByRecursion (λ s. IsShaped TableTree (new.trees s.tree)) (schema_at m).tables
    each_ordered = each_tree m (λ tree. IsShaped TableTree (new.trees tree)) (λ tree is. subst (IsShaped TableTree) (sym (same tree is)) (at_tree m (λ tree. IsShaped TableTree (old.trees tree)) holds.known.ordered tree is))

-- the rows below one number more
module _ (f : Fill) (contents : Contents) (rows : NumberedRows) (n : ℕ) (c : Row) (is : rows n ≡ Some c) where
  filled_more : (key : RowKey) → with_row (with_filled f contents (below n rows)) (filled_row f n c) key ≡ with_filled f contents (below (n + 1) rows) key
  filled_more key = go (same_row_key key (row_key_of (filled_row f n c))) refl
    where
      go : (put : Bool) → same_row_key key (row_key_of (filled_row f n c)) ≡ put → cond put (Some (filled_row f n c)) (with_filled f contents (below n rows) key) ≡ with_filled f contents (below (n + 1) rows) key
      go true here =
          let one : key ≡ filled_key f n = one_key key (row_key_of (filled_row f n c)) here ∙ (of_fill f).row_key n c in
          let low : nat_lt n (n + 1) ≡ true = grind arith in
          sym (ap (with_filled f contents (below (n + 1) rows)) one
          ∙ ap (λ o. unwrap_or (option_map (λ k. option_map (filled_row f k) (below (n + 1) rows k)) o) (contents (filled_key f n))) ((of_fill f).from_key n)
          ∙ ap (option_map (filled_row f n)) (ap (λ b. cond b (rows n) None) low ∙ is))
      go false apart = turn (filled_from f key) refl
        where
          turn : (o : Option ℕ) → filled_from f key ≡ o
              → unwrap_or (option_map (λ k. option_map (filled_row f k) (below n rows k)) o) (contents key) ≡ unwrap_or (option_map (λ k. option_map (filled_row f k) (below (n + 1) rows k)) o) (contents key)
          turn None none = refl
          turn (Some k) from =
              let elsewhere : k ≢ n = λ same. both_ways _ apart (subst (λ at. same_row_key at (row_key_of (filled_row f n c)) ≡ true) ((of_fill f).row_key n c ∙ ap (filled_key f) (sym same) ∙ sym (key_back f key k from)) (key_itself (row_key_of (filled_row f n c)))) in
              let same : nat_lt k n ≡ nat_lt k (n + 1) = grind (arith, elsewhere) in
              ap (option_map (filled_row f k)) (ap (λ b. cond b (rows k) None) same)

module _ (f : Fill) (n : ℕ) (old new : State) (count : ℕ) (h : Executes (fill_text f) (whole n ∷ []) old new (Ok count)) (start : Database) (contents : Contents) (rows : NumberedRows) (fit : AreFit f rows) (filled : Filled f n start old.now contents rows) where
  abbrev trees : Trees
  trees = old.now.trees

  abbrev m : ℕ
  m = schema_with f

  abbrev l : Layout
  l = source_of f

  abbrev t : TableName
  t = target_of f

  -- the row that is put for a row of the source
  abbrev put_of : Row → Row
  put_of r = source_by (key_by t) (filled_columns f (map (column r) (column_places l)))

  ran : (new.now.schema ≡ schema_at m) × IsDatabase new.now × (all : List Row) × (all ≡ map put_of (filter (is_of n) (trees l.tree)))
      × Applies (schema_at m) Enforced trees (edit_of trees (table_by t) [] Chosen 0 all) new.now.trees
  ran =
      let it = of_fill f in
      let params = whole n ∷ [] in
      let went = inserts (schema_at m) (no_acts m) (fill_text f) params old new filled.holds.known.schema (table_place t) (table_by t) (fill_query f) it.fills it.plain_text it.listed refl (it.unstamped n) count h in
      let all = projected_rows trees l.tree (key_tests 0 (0 ∷ [])) params (is_of n) (it.own trees) filled.kept.ordered (λ x. tests_key (0 ∷ []) 0 params (as_row x)) (fill_terms f)
      (map (λ _. Binary) (fill_terms f)) (lit (Int (negsuc 0))) went.2 went.3 in
      (went.0, went.1, went.2, all ∙ map_same _ put_of (it.shows params) (filter (is_of n) (trees l.tree)), went.4)

  -- the rows of the source stay as they are
  still_kept : AllByRecursion (λ s. s.tree ≢ tree_of t → new.now.trees s.tree ≡ trees s.tree) (schema_at m).tables → Keeps l new.now.trees rows
  still_kept others =
      let it = of_fill f in
      keeps_rows l trees new.now.trees rows (at_tree m (λ tree. tree ≢ tree_of t → new.now.trees tree ≡ trees tree) others l.tree it.source_exists it.apart) filled.kept

  -- and so do all rows, except those of the filled table
  others_stay : AllByRecursion (λ s. s.tree ≢ tree_of t → new.now.trees s.tree ≡ trees s.tree) (schema_at m).tables → OthersStay f start.trees new.now.trees
  others_stay others tree has other = at_tree m (λ tree. tree ≢ tree_of t → new.now.trees tree ≡ trees tree) others tree has other ∙ filled.others tree has other

  filled_none : find (is_of n) (trees l.tree) ≡ None → ((x : Row) → Has (trees l.tree) x → is_of n x ≡ false) → Filled f (n + 1) start new.now contents rows
  filled_none none each =
      let all : ran.2 ≡ [] = ran.3 ∙ ap (map put_of) (filter_none (is_of n) _ (all_from (λ x. is_of n x ≡ false) _ each)) in
      let applies = subst (λ rs. Applies (schema_at m) Enforced trees (edit_of trees (table_by t) [] Chosen 0 rs) new.now.trees) all ran.4 in
      let no : rows n ≡ None = sym (filled.kept.kept n) ∙ ap (option_map (λ row. map (column row) (column_places l))) none in
      record {
        holds = hold_rows f contents new.now (below n rows) (below (n + 1) rows)
            (below_same n (n + 1) rows (omega arith) (λ k le lt. let here : k ≡ n = omega (arith, le, lt) in ap rows here ∙ no)) (hold_unchanged m t old.now new.now ran.0 ran.1 applies _ filled.holds);
        kept = still_kept applies.tables;
        others = others_stay applies.tables;
      }

  -- no row of the filled table has the key yet
  module _ (c : Row) (is : rows n ≡ Some c) where
    abbrev row : StoredRow
    row = filled_row f n c

    is_free : (id : ℤ) → IsNumbered (table_of row) (columns_of row) id → (x : Row) → Has (trees (tree_of (table_of row))) x
        → agree plain (key_places (table_of row)) x (key_places (table_of row)) (Int id ∷ behind (table_of row) (columns_of row)) ≡ false
    is_free id named x has = false_from_ne_true _ (λ same.
        let u = table_of row in
        let raw = Int id ∷ behind u (columns_of row) in
        let key = row_key_of row in
        let shows : shown u raw ≡ columns_of row = (facts u (columns_of row) (typed row)).shows id named in
        let here : has_key key x ≡ true = agree_back plain (slots_of key) (key_places u) (key_columns key) x
        (sym (agree_from plain (key_places u) (slots_of key) (key_places u) raw (key_columns key) x (row_key_shown row raw shows)) ∙ agree_back plain (key_places u) (key_places u) x raw same) in
        let low : nat_lt n n ≡ false = grind arith in
        let stands : has_table m u ≡ true = ap (has_table m) ((of_fill f).row_table n c) ∙ (of_fill f).target_exists in
        let empty : with_filled f contents (below n rows) key ≡ None =
        ap (with_filled f contents (below n rows)) ((of_fill f).row_key n c) ∙ ap (λ o. unwrap_or (option_map (λ k. option_map (filled_row f k) (below n rows k)) o) (contents (filled_key f n))) ((of_fill f).from_key n)
        ∙ ap (λ b. option_map (filled_row f n) (cond b (rows n) None)) low in
        let none : look_up trees key ≡ None = filled.holds.rows key stands ∙ ap (option_map columns_of) empty in
        elim (found (has_key key) (trees (tree_of u))) [
          | inl gone ↦ true≢false (sym here ∙ gone.1 x has)
          | inr one ↦ none-some _ (sym none ∙ ap (option_map (shown u)) one.1)
        ])

    filled_one : ran.2 ≡ source_by (key_by t) (columns_of row) ∷ [] → Filled f (n + 1) start new.now contents rows
    filled_one one =
        let u = table_of row in
        let at = (of_fill f).row_table n c in
        let applies = subst (λ rs. Applies (schema_at m) Enforced trees (edit_of trees (table_by t) [] Chosen 0 rs) new.now.trees) one ran.4 in
        let applied = subst (λ v. Applies (schema_at m) Enforced trees (edit_of trees (table_by v) [] Chosen 0 (source_by (key_by v) (columns_of row) ∷ [])) new.now.trees) (sym at) applies in
        let stands : has_table m u ≡ true = ap (has_table m) at ∙ (of_fill f).target_exists in
        let shaped = at_tree m (λ tree. IsShaped TableTree (trees tree)) filled.holds.known.ordered (tree_of u) stands in
        let puts = one_inserted m u (columns_of row) (facts u (columns_of row) (typed row)) trees shaped new.now.trees applied is_free in
        record {
          holds = hold_at_same m new.now _ _ (λ key _. filled_more f contents rows n c is key) (hold_put_at m row old.now new.now ran.0 ran.1 puts _ filled.holds);
          kept = still_kept applies.tables;
          others = others_stay applies.tables;
        }

  filled_found : (r : Row) → find (is_of n) (trees l.tree) ≡ Some r → Has (trees l.tree) r → is_of n r ≡ true → Filled f (n + 1) start new.now contents rows
  filled_found r first has same =
      let c = map (column r) (column_places l) in
      let is : rows n ≡ Some c = sym (filled.kept.kept n) ∙ ap (option_map (λ row. map (column row) (column_places l))) first in
      let number : rowid r ≡ whole n = number_is (trees l.tree) filled.kept.ordered n r has same in
      let alone : filter (is_of n) (trees l.tree) ≡ r ∷ [] = only [] (trees l.tree) r (pos n) filled.kept.ordered has number (is_of n) (compares number) in
      filled_one c is (ran.3 ∙ ap (map put_of) alone ∙ ap (λ columns. source_by (key_by t) columns ∷ []) (fit n c is))
    where
      compares : rowid r ≡ whole n → (x : Row) → Has (trees l.tree) x → is_of n x ≡ is_eq (value_cmp (rowid x) (rowid r))
      compares number x has =
          is_of_int (trees l.tree) filled.kept.ordered n x has ∙ ap is_eq (sym (value_cmp-Int (id_in (rowid x)) (pos n)))
          ∙ ap (λ v. is_eq (value_cmp v (whole n))) (sym (int_number (trees l.tree) filled.kept.ordered n x has)) ∙ ap (λ v. is_eq (value_cmp (rowid x) v)) (sym number)

  pub filled_next : Filled f (n + 1) start new.now contents rows
  filled_next = elim (found (is_of n) (trees l.tree)) [ inl none ↦ filled_none none.0 none.1 | inr one ↦ filled_found one.0 one.1 one.2 one.3 ]
