-- The rows of a table by an enumeration of its keys. At most one row is found at each key, and each row is found at one of them. The row found at a key is the one held there.
use Rattle.std.proofs.Common.{◌≡◌, true, List, map, find, Option, Some, None, option_map, refl, sym, ap, subst, ◌∙◌, Ordering, Less, Equal, IsPermutation}
use Rattle.std.specs.Prelude.{filter_map}
use Rattle.std.proofs.lemmas.Cmp.{tied_itself}
use Rattle.std.proofs.lemmas.Option.{none-some, same_Some}
use Rattle.sqlite_value.specs.Order.{Row, value_cmp}
use Rattle.sqlite_value.proofs.OrderLemmas.{value_cmp_total}
use Rattle.sqlite_trees.specs.Tree.{rowid, IsAscending}
use Rattle.sqlite_rules.specs.Lists.{Has}
use Rattle.sqlite_rules.proofs.ListLemmas.{has_found}
use Rattle.sqlite_keyed.proofs.ListLemmas.{ascending_weaker}
use Rattle.sqlite.specs.Effect.{Database}
use Rattle.table_meaning.specs.declared.tables.TableName.{TableName}
use Rattle.table_meaning.specs.declared.rows.StoredRow.{StoredRow}
use Rattle.table_meaning.specs.Rows.{RowKey, tree_of, shown, columns_of, table_at, has_key}
use Rattle.table_meaning.specs.Holding.{Contents, Hold}
use Rattle.table_meaning.proofs.PlacesLists.{map-filter_map, same_members, has_given, given_by}
use Rattle.table_meaning.proofs.RowsKeyed.{found_by_key, shown_stands}

-- rows of which one is less than the other are different
apart_by : (cmp : Row → Row → Ordering) → ((r : Row) → cmp r r ≡ Equal) → (a b : Row) → cmp a b ≡ Less → a ≡ b → ⊥
apart_by cmp itself a b less same =
    let lower : cmp a a ≡ Less = ap (cmp a) same ∙ less in
    let clash : Less ≡ Equal = sym lower ∙ itself a in cc

module _ (db : Database) (contents : Contents) (holds : Hold db contents) (t : TableName) {K : Type 0} (key : K → RowKey) (at : (k : K) → table_at (key k) ≡ t) where
  abbrev rows : List Row
  rows = db.trees (tree_of t)

  abbrev found : K → Option Row
  found k = find (has_key (key k)) rows

  found_shows : (k : K) → option_map (shown t) (found k) ≡ option_map columns_of (contents (key k))
  found_shows k = subst (λ u. option_map (shown u) (find (has_key (key k)) (db.trees (tree_of u))) ≡ option_map columns_of (contents (key k))) (at k) (holds.rows (key k))

  -- what is known about a row that is found at a key
  pub record IsAt (k : K) (r : Row) : Type 0 where
    pub here : Has rows r
    pub own : has_key (key k) r ≡ true
    pub row : StoredRow
    pub stands : contents (key k) ≡ Some row
    pub shows : shown t r ≡ columns_of row

  pub is_at : (k : K) (r : Row) → found k ≡ Some r → IsAt k r
  is_at k r is = turn (contents (key k)) refl (sym (ap (option_map (shown t)) is) ∙ found_shows k)
    where
      has : Has rows r × (has_key (key k) r ≡ true)
      has = has_found _ rows r is

      turn : (o : Option StoredRow) → contents (key k) ≡ o → Some (shown t r) ≡ option_map columns_of o → IsAt k r
      turn None none shows = absurd (none-some _ (sym shows))
      turn (Some row) some shows = record { here = has.0; own = has.1; row = row; stands = some; shows = same_Some _ _ shows }

  -- If a row is held at a key, it is found there.
  pub is_found : (k : K) (row : StoredRow) → contents (key k) ≡ Some row → (r : Row) × (found k ≡ Some r)
  is_found k row stands = turn (found k) refl
    where
      turn : (o : Option Row) → found k ≡ o → (r : Row) × (found k ≡ Some r)
      turn None none = absurd (none-some _ (sym (ap (option_map (shown t)) none) ∙ found_shows k ∙ ap (option_map columns_of) stands))
      turn (Some r) some = (r, some)

  -- The rows found at some keys are the rows held at these keys.
  pub shown_at : (keys : List K) → map (shown t) (filter_map found keys) ≡ map columns_of (filter_map (λ k. contents (key k)) keys)
  shown_at keys = map-filter_map (shown t) found keys ∙ (λ i. filter_map (λ k. found_shows k i) keys) ∙ sym (map-filter_map columns_of (λ k. contents (key k)) keys)

  -- if the keys are all keys at which a row is held
  module _ (keys : List K) (all : (k : RowKey) (row : StoredRow) → table_at k ≡ t → contents k ≡ Some row → (e : K) × Has keys e × (k ≡ key e)) where
    pub found_at : (r : Row) → Has rows r → (e : K) × Has keys e × (found e ≡ Some r)
    found_at r has =
        let own = holds.keyed t r has in
        let its = subst (λ u. Has (db.trees (tree_of u)) r) (sym own.1) has in
        let held = shown_stands db contents holds own.0 r its own.2 in
        let e = all own.0 held.0 own.1 held.1 in
        let one : find (has_key own.0) rows ≡ Some r = subst (λ u. find (has_key own.0) (db.trees (tree_of u)) ≡ Some r) own.1 (found_by_key db holds.known own.0 r its own.2) in
        (e.0, e.1, subst (λ k. find (has_key k) rows ≡ Some r) e.2 one)

    -- The rows found at them are the rows of the table.
    pub there : (r : Row) → Has rows r → Has (filter_map found keys) r
    there r has = let e = found_at r has in has_given found keys e.0 r e.1 e.2

    pub back : (r : Row) → Has (filter_map found keys) r → Has rows r
    back r has = let from = given_by found keys r has in (is_at from.0 r from.2).here

    -- So they are the same rows in another order, if an order keeps them apart.
    pub same_rows : (cmp : Row → Row → Ordering) → ((r : Row) → cmp r r ≡ Equal) → IsAscending (λ a b. cmp a b ≡ Less) (filter_map found keys) → IsPermutation (filter_map found keys) rows
    same_rows cmp itself rises =
        same_members (filter_map found keys) rows (ascending_weaker (λ a b. cmp a b ≡ Less) (λ a b. a ≡ b → ⊥) (apart_by cmp itself) (filter_map found keys) rises)
        (ascending_weaker (λ a b. value_cmp (rowid a) (rowid b) ≡ Less) (λ a b. a ≡ b → ⊥) (apart_by (λ a b. value_cmp (rowid a) (rowid b)) (λ r. tied_itself value_cmp_total (rowid r))) rows (holds.known.ordered t).0)
        back there
