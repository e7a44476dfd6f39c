-- The rows of a table that is keyed by number are those of a list, each at its place; and the row at one key.
use Rattle.std.proofs.Common.{◌≡◌, ◌⊎◌, ℕ, zero, suc, ◌+◌, ◌<◌, Bool, true, false, cond, List, [], ◌∷◌, map, filter, find, length, slice_get, Option, Some, None, option_map, refl, sym, ap, ap₂, ◌∙◌, inl, inr, arith}
use Rattle.std.specs.Prelude.{filter_map}
use Rattle.std.specs.List.{AllByRecursion, range_with_len, enumerate_from, cons_option, position_from}
use Rattle.std.proofs.lemmas.Option.{none-some, same_Some, slice_get_past}
use Rattle.sqlite_value.specs.Order.{Row}
use Rattle.sqlite_keyed.proofs.ListLemmas.{map-map}
use Rattle.sqlite.specs.Effect.{Database}
use Rattle.sched_book.specs.Places.{nth, place_where}
use Rattle.sched_book.proofs.PlacesOf.{nth-suc, place_where-is}
use Rattle.table_meaning.specs.declared.rows.StoredRow.{StoredRow}
use Rattle.table_meaning.specs.declared.tables.TableName.{TableName}
use Rattle.table_meaning.specs.Holding.{Contents, Hold}
use Rattle.table_meaning.specs.Listings.{rows_where}
use Rattle.table_meaning.specs.Rows.{RowKey, columns_of}
use Rattle.table_meaning.proofs.Listings.{IsByNumber, listed}

-- ---- the row at a key

-- if there is a row, it is that of an item
pub item_at_key : {X : Type 0} (row : X → StoredRow) (o : Option X) (columns : Row) → Some columns ≡ option_map columns_of (option_map row o) → (x : X) × (o ≡ Some x) × (columns ≡ columns_of (row x))
item_at_key row None columns is = absurd (none-some _ (sym is))
item_at_key row (Some x) columns is = (x, refl, same_Some _ _ is)

pub none_stands : {X : Type 0} (row : X → StoredRow) (o : Option X) → None ≡ option_map columns_of (option_map row o) → o ≡ None
none_stands row None is = refl
none_stands row (Some x) is = absurd (none-some _ is)

-- ---- a table that is keyed by number

-- the row at each place is made of the item there
each_placed : {X Y : Type 0} (f : ℕ → X → Y) (at : ℕ → Option Y) (from : ℕ) (xs : List X) → ((n i : ℕ) → n ≡ from + i → at n ≡ option_map (f n) (slice_get xs i))
    → filter_map at (range_with_len from (length xs)) ≡ map (λ e. f e.0 e.1) (enumerate_from from xs)
each_placed f at from [] placed = refl
each_placed f at from (x ∷ xs) placed = ap₂ cons_option (placed from 0 (omega arith)) (each_placed f at (from + 1) xs (λ n i is. placed n (suc i) (omega (arith, is))))

module _ {X : Type 0} (t : TableName) (key : ℕ → RowKey) (by : IsByNumber t key) (db : Database) (contents : Contents) (holds : Hold db contents) (row : ℕ → X → StoredRow) (xs : List X)
    (stands : (n : ℕ) → contents (key n) ≡ option_map (row n) (nth xs n)) where
  abbrev columns : ℕ × X → Row
  columns e = columns_of (row e.0 e.1)

  placed : (n i : ℕ) → n ≡ 1 + i → contents (key n) ≡ option_map (row n) (slice_get xs i)
  placed n i is = let next : n ≡ suc i = omega (arith, is) in stands n ∙ ap (option_map (row n)) (ap (nth xs) next ∙ nth-suc xs i)

  past : (n : ℕ) → length xs < n → contents (key n) ≡ None
  past zero lt = absurd (omega (arith, lt))
  past (suc n) lt = stands (suc n) ∙ ap (option_map (row (suc n))) (nth-suc xs n ∙ slice_get_past xs n (omega (arith, lt)))

  -- the rows that pass a test are those of the items, in the order of their places
  pub rows_of_list : (test : Row → Bool) → rows_where db.trees t test ≡ filter test (map columns (enumerate_from 1 xs))
  rows_of_list test =
      listed t key by db contents holds (length xs) (stands 0) past test
      ∙ ap (λ l. filter test (map columns_of l)) (each_placed row (λ n. contents (key n)) 1 xs placed)
      ∙ ap (filter test) (map-map columns_of (λ (e : ℕ × X). row e.0 e.1) (enumerate_from 1 xs))

-- ---- the first item that passes

-- for items whose rows are tested as the items are
module _ {X : Type 0} (columns : ℕ × X → Row) (test : Row → Bool) (p : X → Bool) (Such : X → Type 0) (tells : (n : ℕ) (x : X) → Such x → test (columns (n, x)) ≡ p x) where
  abbrev first_row : ℕ → List X → Option Row
  first_row from xs = slice_get (filter test (map columns (enumerate_from from xs))) 0

  -- either no item passes and there is no row, or the first row is that of the first item that passes
  abbrev First : ℕ → List X → Type 0
  First from xs = ((first_row from xs ≡ None) × (position_from p from xs ≡ None) × (find p xs ≡ None))
      ⊎ ((n : ℕ) × (i : ℕ) × (x : X) × (first_row from xs ≡ Some (columns (n, x))) × (position_from p from xs ≡ Some n) × (n ≡ from + i) × (slice_get xs i ≡ Some x)
      × (find p xs ≡ Some x) × (p x ≡ true))

  first_from : (from : ℕ) (xs : List X) → AllByRecursion Such xs → First from xs
  first_from from [] such = inl (refl, refl, refl)
  first_from from (x ∷ xs) such = turn (p x) refl (first_from (from + 1) xs such.1)
    where
      others : List Row
      others = filter test (map columns (enumerate_from (from + 1) xs))

      row_is : (b : Bool) → p x ≡ b → first_row from (x ∷ xs) ≡ slice_get (cond b (columns (from, x) ∷ others) others) 0
      row_is b is = ap (λ c. slice_get (cond c (columns (from, x) ∷ others) others) 0) (tells from x such.0 ∙ is)

      place_is : (b : Bool) → p x ≡ b → position_from p from (x ∷ xs) ≡ cond b (Some from) (position_from p (from + 1) xs)
      place_is b is = ap (λ c. cond c (Some from) (position_from p (from + 1) xs)) is

      found_is : (b : Bool) → p x ≡ b → find p (x ∷ xs) ≡ cond b (Some x) (find p xs)
      found_is b is = ap (λ c. cond c (Some x) (find p xs)) is

      turn : (b : Bool) → p x ≡ b → First (from + 1) xs → First from (x ∷ xs)
      turn true is later = inr (from, 0, x, row_is true is, place_is true is, (omega arith), refl, found_is true is, is)
      turn false is (inl none) = inl (row_is false is ∙ none.0, place_is false is ∙ none.1, found_is false is ∙ none.2)
      turn false is (inr found) =
          inr (found.0, suc found.1, found.2, row_is false is ∙ found.3, place_is false is ∙ found.4, omega (arith, found.5), found.6, found_is false is ∙ found.7, found.8)

  -- the same, of places that count from one
  pub first_such : (xs : List X) → AllByRecursion Such xs
      → ((first_row 1 xs ≡ None) × (place_where p xs ≡ None) × (find p xs ≡ None))
      ⊎ ((n : ℕ) × (x : X) × (first_row 1 xs ≡ Some (columns (n, x))) × (place_where p xs ≡ Some n) × (nth xs n ≡ Some x) × (find p xs ≡ Some x) × (p x ≡ true))
  first_such xs such = elim (first_from 1 xs such) [
    | inl none ↦ inl (none.0, place_where-is p xs ∙ none.1, none.2)
    | inr found ↦
        let next : found.0 ≡ suc found.1 = omega (arith, found.5) in
        inr (found.0, found.2, found.3, place_where-is p xs ∙ found.4, ap (nth xs) next ∙ nth-suc xs found.1 ∙ found.6, found.7, found.8)
  ]

-- if this is so for all items
module _ {X : Type 0} (columns : ℕ × X → Row) (test : Row → Bool) (p : X → Bool) (tells : (n : ℕ) (x : X) → test (columns (n, x)) ≡ p x) where
  any : (xs : List X) → AllByRecursion (λ x. Unit {0}) xs
  any [] = tt
  any (x ∷ xs) = (tt, any xs)

  pub first_placed : (xs : List X) → ((slice_get (filter test (map columns (enumerate_from 1 xs))) 0 ≡ None) × (place_where p xs ≡ None) × (find p xs ≡ None))
      ⊎ ((n : ℕ) × (x : X) × (slice_get (filter test (map columns (enumerate_from 1 xs))) 0 ≡ Some (columns (n, x))) × (place_where p xs ≡ Some n) × (nth xs n ≡ Some x)
      × (find p xs ≡ Some x) × (p x ≡ true))
  first_placed xs = first_such columns test p (λ x. Unit {0}) (λ n x such. tells n x) xs (any xs)
