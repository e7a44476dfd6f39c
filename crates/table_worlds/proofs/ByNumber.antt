-- If a table has the items of a list, each at its number, the list is what is found at the numbers up to the table's greatest.
use Rattle.std.proofs.Common.{◌≡◌, ◌≤◌, ◌<◌, ℕ, zero, suc, ◌+◌, List, [], ◌∷◌, length, Option, Some, None, option_map, refl, ap, subst, ◌∙◌, arith, inl, inr}
use Rattle.std.specs.Prelude.{filter_map, slice_get}
use Rattle.std.specs.List.{range_with_len, cons_option}
use Rattle.sqlite_rules.specs.Lists.{Has}
use Rattle.sqlite_trees.specs.Tree.{Trees}
use Rattle.sqlite_value.specs.Order.{Row}
use Rattle.sched_book.specs.Places.{nth}
use Rattle.table_meaning.specs.declared.rows.StoredRow.{StoredRow}
use Rattle.table_meaning.specs.declared.tables.TableName.{TableName}
use Rattle.table_meaning.specs.Rows.{RowKey, rows_in, columns_of, table_at, look_up}
use Rattle.table_meaning.proofs.RowsKeyed.{row_has}
use Rattle.table_worlds.specs.ReadBack.{number_at}
use Rattle.table_worlds.specs.StoredWorld.{greatest, numbers_in}
use Rattle.table_worlds.proofs.ByPlace.{nth_next}

-- ---- numbers of rows

-- no row has a number above the greatest
at_most : (at : ℕ) (rows : List Row) (row : Row) → Has rows row → number_at row at ≤ greatest at rows
at_most at [] row has = absurd has
at_most at (r ∷ rows) row (inl same) = let number : number_at row at ≡ number_at r at = ap (λ x. number_at x at) same in omega (arith, number)
at_most at (r ∷ rows) row (inr later) = omega (arith, at_most at rows row later)

-- ---- lists by numbers

-- a list is no longer than a bound of its indices
no_longer : {X : Type 0} (xs : List X) (bound : ℕ) → ((i : ℕ) (x : X) → slice_get xs i ≡ Some x → i < bound) → length xs ≤ bound
no_longer [] bound below = omega arith
no_longer (x ∷ xs) zero below = absurd (omega (arith, below 0 x refl))
no_longer (x ∷ xs) (suc bound) below = omega (arith, no_longer xs bound (λ i y is. omega (arith, below (suc i) y is)))

-- if each item is found at its number, what is found at enough numbers is the list
all_found : {X : Type 0} (f : ℕ → Option X) (xs : List X) (from count : ℕ) → length xs ≤ count → ((i n : ℕ) → n ≡ i + from → f n ≡ slice_get xs i) → filter_map f (range_with_len from count) ≡ xs
all_found f [] from zero few is = refl
all_found f (x ∷ xs) from zero few is = absurd (omega (arith, few))
all_found f [] from (suc count) few is =
    ap (λ o. cons_option o (filter_map f (range_with_len (from + 1) count))) (is 0 from (omega arith))
    ∙ all_found f [] (from + 1) count (omega arith) (λ i n at. is (suc i) n (omega (arith, at)))
all_found f (x ∷ xs) from (suc count) few is =
    ap (λ o. cons_option o (filter_map f (range_with_len (from + 1) count))) (is 0 from (omega arith))
    ∙ ap (λ ys. x ∷ ys) (all_found f xs (from + 1) count (omega (arith, few)) (λ i n at. is (suc i) n (omega (arith, at))))

-- ---- tables by numbers

-- A table whose keys are the numbers in a column, the row of an item, and what is found at a number: nothing if there is no row.
module _ {X : Type 0} (trees : Trees) (t : TableName) (column : ℕ) (key : ℕ → RowKey) (of_table : (n : ℕ) → table_at (key n) ≡ t)
    (row : ℕ → X → StoredRow) (numbered : (n : ℕ) (x : X) → number_at (columns_of (row n x)) column ≡ n)
    (found : ℕ → Option X) (nothing : (n : ℕ) → look_up trees (key n) ≡ None → found n ≡ None) (xs : List X) where
  -- if the items are at the numbers from one number on, and each is found at its number
  module _ (from : ℕ) (stands : (i n : ℕ) → n ≡ i + from → look_up trees (key n) ≡ option_map columns_of (option_map (row n) (slice_get xs i)))
      (back : (i n : ℕ) (x : X) → n ≡ i + from → slice_get xs i ≡ Some x → look_up trees (key n) ≡ Some (columns_of (row n x)) → found n ≡ Some x) where
    item_back : (i n : ℕ) → n ≡ i + from → found n ≡ slice_get xs i
    item_back i n at = go (slice_get xs i) refl (stands i n at)
      where
        go : (o : Option X) → slice_get xs i ≡ o → look_up trees (key n) ≡ option_map columns_of (option_map (row n) o) → found n ≡ o
        go None is shows = nothing n shows
        go (Some x) is shows = back i n x at is shows

    -- the number of an item is at most the greatest
    number_within : (i : ℕ) (x : X) → slice_get xs i ≡ Some x → i + from ≤ greatest column (rows_in trees t)
    number_within i x is =
        let shows : look_up trees (key (i + from)) ≡ Some (columns_of (row (i + from) x)) =
        stands i (i + from) refl ∙ ap (λ o. option_map columns_of (option_map (row (i + from)) o)) is in
        let most : number_at (columns_of (row (i + from) x)) column ≤ greatest column (rows_in trees (table_at (key (i + from)))) =
        at_most column (rows_in trees (table_at (key (i + from)))) (columns_of (row (i + from) x)) (row_has trees (key (i + from)) (columns_of (row (i + from) x)) shows) in
        subst (λ u. i + from ≤ greatest column (rows_in trees u)) (of_table (i + from)) (omega (arith, most, numbered (i + from) x))

    -- so what is found at enough numbers is the list
    pub list_found : (count : ℕ) → greatest column (rows_in trees t) < count + from → filter_map found (range_with_len from count) ≡ xs
    list_found count enough = all_found found xs from count (no_longer xs count (λ i x is. omega (arith, number_within i x is, enough))) item_back

-- the same, if the row alone determines the item
pub list_back : {X : Type 0} (trees : Trees) (t : TableName) (column : ℕ) (key : ℕ → RowKey) → ((n : ℕ) → table_at (key n) ≡ t)
    → (row : ℕ → X → StoredRow) → ((n : ℕ) (x : X) → number_at (columns_of (row n x)) column ≡ n) → (read : ℕ → Row → X) (xs : List X) (from : ℕ)
    → ((i n : ℕ) → n ≡ i + from → look_up trees (key n) ≡ option_map columns_of (option_map (row n) (slice_get xs i)))
    → ((i n : ℕ) (x : X) → n ≡ i + from → slice_get xs i ≡ Some x → read n (columns_of (row n x)) ≡ x)
    → (count : ℕ) → greatest column (rows_in trees t) < count + from → filter_map (λ n. option_map (read n) (look_up trees (key n))) (range_with_len from count) ≡ xs
list_back trees t column key of_table row numbered read xs from stands back =
    list_found trees t column key of_table row numbered (λ n. option_map (read n) (look_up trees (key n))) (λ n none. ap (option_map (read n)) none) xs from stands
    (λ i n x at is shows. ap (option_map (read n)) shows ∙ ap Some (back i n x at is))

-- and if the items are at their places and the number is the first column
module _ {X : Type 0} (trees : Trees) (t : TableName) (key : ℕ → RowKey) (of_table : (n : ℕ) → table_at (key n) ≡ t)
    (row : ℕ → X → StoredRow) (numbered : (n : ℕ) (x : X) → number_at (columns_of (row n x)) 0 ≡ n) where
  -- the item at the place after an index
  at_index : (xs : List X) (i n : ℕ) → n ≡ i + 1 → nth xs n ≡ slice_get xs i
  at_index xs i n at = ap (nth xs) at ∙ nth_next xs i

  pub places_found : (found : ℕ → Option X) → ((n : ℕ) → look_up trees (key n) ≡ None → found n ≡ None) → (xs : List X)
      → ((n : ℕ) → look_up trees (key n) ≡ option_map columns_of (option_map (row n) (nth xs n)))
      → ((n : ℕ) (x : X) → nth xs n ≡ Some x → look_up trees (key n) ≡ Some (columns_of (row n x)) → found n ≡ Some x) → filter_map found (numbers_in trees t) ≡ xs
  places_found found nothing xs stands back =
      list_found trees t 0 key of_table row numbered found nothing xs 1
      (λ i n at. stands n ∙ ap (λ o. option_map columns_of (option_map (row n) o)) (at_index xs i n at))
      (λ i n x at is shows. back n x (at_index xs i n at ∙ is) shows)
      (greatest 0 (rows_in trees t)) (omega arith)

  pub places_back : (read : ℕ → Row → X) (xs : List X) → ((n : ℕ) → look_up trees (key n) ≡ option_map columns_of (option_map (row n) (nth xs n)))
      → ((n : ℕ) (x : X) → nth xs n ≡ Some x → read n (columns_of (row n x)) ≡ x) → filter_map (λ n. option_map (read n) (look_up trees (key n))) (numbers_in trees t) ≡ xs
  places_back read xs stands back =
      places_found (λ n. option_map (read n) (look_up trees (key n))) (λ n none. ap (option_map (read n)) none) xs stands
      (λ n x is shows. ap (option_map (read n)) shows ∙ ap Some (back n x is))
