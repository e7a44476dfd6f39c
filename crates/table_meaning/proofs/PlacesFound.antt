-- The rows of the instances, in the order of their places. Each place has at most one, and each row of the table has a place.
use Rattle.std.proofs.Common.{◌≡◌, ℕ, pos, ◌≤◌, Bool, true, false, ◌&&◌, List, [], ◌∷◌, map, filter, find, Option, Some, None, refl, sym, ap, ap₂, subst, ◌∙◌, inl, inr, arith, true≢false, Less, Equal, IsPermutation}
use Rattle.std.specs.Prelude.{filter_map}
use Rattle.std.specs.List.{AllByRecursion}
use Rattle.std.specs.Ordering.{int_cmp, ordering_then}
use Rattle.std.proofs.lemmas.Bool.{and_parts, and_from}
use Rattle.std.proofs.lemmas.Cmp.{tied_itself}
use Rattle.std.proofs.lemmas.Int.{ints}
use Rattle.sched_book.specs.declared.instance.Place.{Place}
use Rattle.sqlite_value.specs.declared.value.Value.{Value}
use Rattle.sqlite_value.specs.declared.value.Value.TheVariants.{Int, Real}
use Rattle.sqlite_value.specs.declared.keys.Collation.TheVariants.{Binary}
use Rattle.sqlite_value.specs.Order.{Row, column, value_cmp}
use Rattle.sqlite_value.specs.Keys.{first_key}
use Rattle.sqlite_value.proofs.OrderLemmas.{value_cmp-Int, value_cmp_total}
use Rattle.sqlite_trees.specs.Tree.{IsAscending}
use Rattle.sqlite_sql.specs.declared.ops.CompareOp.TheVariants.{Eq, Gt, Ge}
use Rattle.sqlite_sql.specs.Ops.{binary}
use Rattle.sqlite_schema.specs.Rules.{equal}
use Rattle.sqlite_rules.specs.Lists.{Has}
use Rattle.sqlite_rules.proofs.ListLemmas.{all_has, all_from}
use Rattle.sqlite_keyed.proofs.ListLemmas.{filter_all, ascending-filter, IsPermutation-filter}
use Rattle.sqlite_keyed.proofs.KeyedLemmas.{same_int}
use Rattle.sqlite_typed.proofs.TestLemmas.{at_ints}
use Rattle.sqlite.specs.Effect.{Database}
use Rattle.table_meaning.specs.declared.tables.TableName.TheVariants.{Instance}
use Rattle.table_meaning.specs.declared.rows.StoredRow.{StoredRow}
use Rattle.table_meaning.specs.Rows.{shown, whole, columns_of, RowKey, instance_key, table_at, key_columns, has_key}
use Rattle.table_meaning.specs.Holding.{Contents, Hold}
use Rattle.table_meaning.specs.Places.{instance_row_at, place_row, IsBefore, AreAllPlaces, shows_passing, places_with_row, compares}
use Rattle.table_meaning.proofs.EachRow.{typed, number_in, key_of_table}
use Rattle.table_meaning.proofs.Enumerated.{IsAt, is_at, is_found, shown_at, found_at, same_rows}
use Rattle.table_meaning.proofs.PlacesLists.{filter-passed, ascending-filter_map, filter-filter_map, shown_for_each}
use Rattle.table_meaning.proofs.Typed.{is_real, no_reals}

-- a value that equals a number is that number, unless it is a float
same_number : (v : Value) (n : ℕ) → is_real v ≡ false → equal Binary v (whole n) ≡ true → v ≡ whole n
unfolding value_cmp binary
same_number (Int m) n other same = ap Int (same_int m (pos n) (sym (at_ints false Eq m (pos n)) ∙ same))
same_number (Real x) n other same = absurd (true≢false other)
same_number _ n other same = absurd (true≢false (sym same))

-- the test that the statements make of each row
abbrev pub is_of_a_place : Row → Bool
is_of_a_place r = compares Gt (column r 1) (whole 0) && (compares Ge (column r 2) (whole 0) && true)

-- the order by the columns of the place
abbrev pub place_cmp : Row → Row → Rattle.std.proofs.Common.Ordering
place_cmp a b = ordering_then (value_cmp (column a 1) (column b 1)) (ordering_then (value_cmp (column a 2) (column b 2)) Equal)

abbrev key : Place → RowKey
key p = instance_key p.unit p.number

module _ (db : Database) (contents : Contents) (holds : Hold db contents) (places : List Place) (are : AreAllPlaces contents places) where
  abbrev rows : List Row
  rows = db.trees 12

  abbrev pub found : Place → Option Row
  found p = find (has_key (key p)) rows

  at : (p : Place) (r : Row) → found p ≡ Some r → IsAt db contents holds Instance key (λ q. refl) p r
  at = is_at db contents holds Instance key (λ p. refl)

  all : (k : RowKey) (row : StoredRow) → table_at k ≡ Instance → contents k ≡ Some row → (p : Place) × Has places p × (k ≡ key p)
  all k row same stands =
      let p : Place = record { unit = number_in (column (key_columns k) 0); number = number_in (column (key_columns k) 1) } in
      let is : k ≡ key p = key_of_table Instance k same in
      (p, are.all p row (sym (ap contents is) ∙ stands), is)

  -- the columns of the row found at a place
  placed : (p : Place) (r : Row) → found p ≡ Some r → (column r 1 ≡ whole p.unit) × (column r 2 ≡ whole p.number)
  unfolding first_key
  placed p r is =
      let it = at p r is in
      let own : has_key (key p) r ≡ true = it.own in
      let first = and_parts _ _ own in
      let second = and_parts _ _ first.1 in (
        same_number (column r 1) p.unit (ap (λ (c : Row). is_real (column c 0)) it.shows ∙ no_reals _ (columns_of it.row) (typed it.row) 0) first.0,
        same_number (column r 2) p.number (ap (λ (c : Row). is_real (column c 1)) it.shows ∙ no_reals _ (columns_of it.row) (typed it.row) 1) second.0,
      )

  before : (p q : Place) (a b : Row) → IsBefore p q → found p ≡ Some a → found q ≡ Some b → place_cmp a b ≡ Less
  before p q a b up some other =
      let first = placed p a some in
      let second = placed q b other in
      rw (first.0, first.1, second.0, second.1, value_cmp-Int, value_cmp-Int) (elim up [
        | inl lower ↦ let less : int_cmp (pos p.unit) (pos q.unit) ≡ Less = grind (arith, ints) in rw less refl
        | inr same ↦
            let here : int_cmp (pos p.unit) (pos q.unit) ≡ Equal = grind (arith, ints) in
            let less : int_cmp (pos p.number) (pos q.number) ≡ Less = grind (arith, ints) in
            rw (here, less) refl
      ])

  found_rises : IsAscending (λ a b. place_cmp a b ≡ Less) (filter_map found places)
  found_rises = ascending-filter_map found IsBefore (λ a b. place_cmp a b ≡ Less) before places are.rise

  positive : (n : ℕ) → 1 ≤ n → compares Gt (whole n) (whole 0) ≡ true
  positive n le = at_ints false Gt (pos n) (pos 0) ∙ grind (arith, ints)

  natural : (n : ℕ) → compares Ge (whole n) (whole 0) ≡ true
  natural n = at_ints false Ge (pos n) (pos 0) ∙ grind (arith, ints)

  of_a_place : AllByRecursion (λ r. is_of_a_place r ≡ true) rows
  of_a_place = all_from (λ r. is_of_a_place r ≡ true) rows (λ r has.
      let p = found_at db contents holds Instance key (λ q. refl) places all r has in
      let columns = placed p.0 r p.2 in
      let one = all_has (λ (q : Place). 1 ≤ q.unit) places p.0 are.from_one p.1 in
      rw (columns.0, columns.1) (and_from _ _ (positive p.0.unit one) (and_from _ _ (natural p.0.number) refl)))

  module _ (test : Row → Bool) where
    abbrev passes : Row → Bool
    passes r = test (shown Instance r)

    -- the rows found at the places in turn that pass the test
    abbrev pub standing : List Row
    standing = filter passes (filter_map found places)

    pub standing_rises : IsAscending (λ a b. place_cmp a b ≡ Less) standing
    standing_rises = ascending-filter (λ a b. place_cmp a b ≡ Less) passes (filter_map found places) found_rises

    -- They are all rows of the table that pass the test.
    pub standing_rows : IsPermutation standing (filter (λ r. is_of_a_place r && passes r) rows)
    standing_rows =
        subst (IsPermutation standing) (sym (filter-passed passes is_of_a_place rows ∙ ap (filter passes) (filter_all is_of_a_place rows of_a_place)))
        (IsPermutation-filter passes (filter_map found places) rows (same_rows db contents holds Instance key (λ p. refl) places all place_cmp itself found_rises))
      where
        itself : (r : Row) → place_cmp r r ≡ Equal
        itself r = rw (tied_itself value_cmp_total (column r 1), tied_itself value_cmp_total (column r 2)) refl

    abbrev pub passes_at : Place → Bool
    passes_at p = shows_passing test (instance_row_at contents p)

    -- Their places are those that have an instance whose columns pass the test.
    pub standing_places : map (λ r. column r 1 ∷ column r 2 ∷ []) standing ≡ map place_row (places_with_row contents test places)
    standing_places =
        ap (map (λ (r : Row). column r 1 ∷ column r 2 ∷ [])) (filter-filter_map found passes passes_at same_test places) ∙ shown_for_each found (λ r. column r 1 ∷ column r 2 ∷ []) place_row passes_at each places
      where
        same_test : (p : Place) (r : Row) → found p ≡ Some r → passes r ≡ passes_at p
        same_test p r is = let it = at p r is in ap test it.shows ∙ sym (ap (shows_passing test) it.stands)

        each : (p : Place) → passes_at p ≡ true → (r : Row) × (found p ≡ Some r) × (column r 1 ∷ column r 2 ∷ [] ≡ place_row p)
        each p passing = turn (instance_row_at contents p) refl
          where
            turn : (o : Option StoredRow) → instance_row_at contents p ≡ o → (r : Row) × (found p ≡ Some r) × (column r 1 ∷ column r 2 ∷ [] ≡ place_row p)
            turn None none = absurd (true≢false (sym passing ∙ ap (shows_passing test) none))
            turn (Some row) some =
                let r = is_found db contents holds Instance key (λ q. refl) p row some in
                let columns = placed p r.0 r.1 in
                (r.0, r.1, ap₂ (λ (u n : Value). u ∷ n ∷ []) columns.0 columns.1)

    -- If a test of places agrees with the test of rows, the rows are the instances at the places that pass it.
    pub standing_shown : (chosen : Place → Bool) → ((p : Place) (r : Row) → column r 1 ≡ whole p.unit → passes r ≡ chosen p)
        → map (shown Instance) standing ≡ map columns_of (filter_map (instance_row_at contents) (filter chosen places))
    standing_shown chosen same =
        ap (map (shown Instance)) (filter-filter_map found passes chosen (λ p r is. same p r (placed p r is).0) places)
        ∙ shown_at db contents holds Instance key (λ p. refl) (filter chosen places)
