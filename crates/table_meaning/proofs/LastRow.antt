-- A read of the last row of a table shows the greatest number that a row has.
use Rattle.std.proofs.Common.{◌≡◌, ℕ, ℤ, pos, ◌<ℤ◌, true, false, ◌&&◌, cond, List, [], ◌∷◌, map, filter, slice_get, Option, Some, None, option_map, unwrap_or, refl, sym, ap, subst, ◌∙◌, arith, Ordering, int_cmp, is_eq, is_gt}
use Rattle.std.specs.List.{AllByRecursion, last_or}
use Rattle.std.specs.Ordering.{ordering_reverse}
use Rattle.std.proofs.lemmas.Cmp.{int_cmp_total}
use Rattle.std.proofs.lemmas.Int.{ints}
use Rattle.std.proofs.lemmas.Option.{none-some, slice_get-map}
use Rattle.sqlite_value.specs.declared.value.Value.TheVariants.{Null}
use Rattle.sqlite_value.specs.Order.{Row, column}
use Rattle.sqlite_value.proofs.OrderLemmas.{value_cmp-Int}
use Rattle.sqlite_trees.specs.declared.store.Shape.TheVariants.{Table as TableTree}
use Rattle.sqlite_trees.specs.Tree.{Trees, IsTable}
use Rattle.sqlite_trees.specs.View.{IsShaped}
use Rattle.sqlite_sql.specs.declared.ops.CompareOp.TheVariants.{Gt}
use Rattle.sqlite_sql.specs.Program.{overlay}
use Rattle.sqlite_sql.specs.Query.{IsAnswer}
use Rattle.sqlite_schema.specs.declared.command.Command.TheVariants.{Select}
use Rattle.sqlite_keyed.specs.Keyed.{IsKeyedBy}
use Rattle.sqlite_keyed.specs.Lists.{insert_sorted, sort_by}
use Rattle.sqlite_keyed.proofs.ListLemmas.{map-map, filter-map, map_same, ascending-filter}
use Rattle.sqlite_typed.proofs.AnswerLemmas.{at_end, last_table, answer_sorted, first_of}
use Rattle.sqlite_typed.proofs.TestLemmas.{at_ints, then_term, last_key}
use Rattle.sqlite.specs.State.{State, Shown}
use Rattle.sqlite.specs.Listing.{understood, reads_listing}
use Rattle.sqlite.proofs.Callers.{IsPlain, command_of, reads_as}
use Rattle.table_meaning.specs.declared.tables.TableName.{TableName}
use Rattle.table_meaning.specs.Schema.{stored_schema}
use Rattle.table_meaning.specs.Rows.{tree_of, shown}
use Rattle.table_meaning.specs.Holding.{AreKnown}
use Rattle.table_meaning.specs.Listings.{is_numbered, rows_where, last_query}
use Rattle.table_meaning.proofs.Reading.{Numbered, as_row, parted, as_rows, numbers_rise, own_rows}

-- ---- the last of a list

last_has : {X : Type 0} (P : X → Type 0) (x : X) (xs : List X) → AllByRecursion P (x ∷ xs) → (z : X) → Some z ≡ last_or (Some x) xs → P z
last_has P x [] all z is = subst P (sym (ap (λ o. unwrap_or o x) is)) all.0
last_has P x (y ∷ ys) all z is = last_has P y ys all.1 z is

no_last : {X : Type 0} (x : X) (xs : List X) → None ≡ last_or (Some x) xs → ⊥
no_last x [] is = none-some _ is
no_last x (y ∷ ys) is = no_last y ys is

last_or-map : {X Y : Type 0} (f : X → Y) (o : Option X) (xs : List X) → last_or (option_map f o) (map f xs) ≡ option_map f (last_or o xs)
last_or-map f o [] = refl
last_or-map f o (x ∷ xs) = last_or-map f (Some x) xs

-- the greater key first
abbrev falling : {X : Type 0} → (X → ℤ) → X → X → Ordering
falling key a b = int_cmp (key b) (key a)

first_falling : {X : Type 0} (key : X → ℤ) (xs : List X) → IsKeyedBy key xs → slice_get (sort_by (falling key) xs) 0 ≡ last_or None xs
first_falling key [] keyed = refl
first_falling key (x ∷ []) keyed = refl
first_falling key (x ∷ y ∷ ys) keyed = put (sort_by (falling key) (y ∷ ys)) (first_falling key (y ∷ ys) keyed.1)
  where
    put : (l : List _) → slice_get l 0 ≡ last_or (Some y) ys → slice_get (insert_sorted (falling key) x l) 0 ≡ last_or (Some y) ys
    put [] is = absurd (no_last y ys is)
    put (z ∷ zs) is =
        let later : key x <ℤ key z = last_has (λ w. key x <ℤ key w) y ys keyed.0 z is in
        let after : is_gt (int_cmp (key z) (key x)) ≡ true = grind (arith, ints) in
        ap (λ b. slice_get (cond b (z ∷ insert_sorted (falling key) x zs) (x ∷ z ∷ zs)) 0) after ∙ is

-- ---- the last row of a table

-- the text reads the number of the last row
abbrev pub IsLast : TableName → List (List ℕ) → List ℕ → Type 0
IsLast t names text = (command_of (understood stored_schema text) ≡ Select (record { lets = []; body = last_query (tree_of t) }) names) × IsPlain (understood stored_schema text) × (reads_listing stored_schema text ≡ false)

module _ (t : TableName) (numbered : (r : Row) → column (shown t r) 0 ≡ column r 0) where
  last_row : (trees : Trees) → IsShaped TableTree (trees (tree_of t)) → (rows : List Row) → IsAnswer (last_query (tree_of t)) (overlay trees []) [] rows
      → option_map (λ r. column r 0) (slice_get rows 0) ≡ last_or None (map (λ r. column r 0) (rows_where trees t (λ _. true)))
  last_row trees shaped rows answer =
      let all = trees (tree_of t) in
      let xs = map parted all in
      let is : all ≡ map as_row xs = as_rows all shaped.1 in
      let keyed = numbers_rise xs (subst IsTable is shaped.0) in
      let source = last_table (overlay trees []) (tree_of t) as_row (λ n. n.0) xs (own_rows t trees ∙ is) keyed (at_end (overlay trees [])) in
      let p = λ (r : Row). is_numbered r && true in
      let kept = filter (λ n. p (as_row n)) xs in
      let number = λ (n : Numbered). column (as_row n) 0 in
      let found = answer_sorted (last_query (tree_of t)) (overlay trees []) [] source (λ n. p (as_row n)) (λ n. then_term (at_ints false Gt n.0 (pos 0)) refl) (λ r. column r 0) number (λ n. refl) refl refl
      (falling (λ n. n.0)) (λ a b less. record { apart = ap is_eq (int_cmp_total.antisymm b.0 a.0 ∙ ap ordering_reverse less) }) (λ a b. last_key (value_cmp-Int b.0 a.0)) rows answer in
      let passed = ap (λ l. map (λ r. column r 0) (map (shown t) (filter p l))) is ∙ map-map (λ r. column r 0) (shown t) (filter p (map as_row xs)) ∙ map_same _ (λ r. column r 0) numbered (filter p (map as_row xs))
      ∙ ap (map (λ r. column r 0)) (filter-map p as_row xs) ∙ map-map (λ r. column r 0) as_row kept in
      sym (slice_get-map (λ r. column r 0) rows 0) ∙ first_of (map number (sort_by (falling (λ n. n.0)) kept)) found ∙ slice_get-map number (sort_by (falling (λ n. n.0)) kept) 0
      ∙ ap (option_map number) (first_falling (λ n. n.0) kept (ascending-filter _ (λ n. p (as_row n)) xs keyed)) ∙ sym (last_or-map number None kept) ∙ ap (last_or None) (sym passed)

  pub last_shown : (names : List (List ℕ)) (text : List ℕ) → IsLast t names text → (old new : State) → AreKnown old.now → (rows : List Row) → Shown text [] old new rows
      → option_map (λ r. column r 0) (slice_get rows 0) ≡ last_or None (map (λ r. column r 0) (rows_where old.now.trees t (λ _. true)))
  last_shown names text meaning old new known rows h =
      let read = reads_as text [] old new stored_schema known.schema _ meaning.0 meaning.1 meaning.2 rows h in
      last_row old.now.trees (known.ordered t) rows (read.answer Null)
