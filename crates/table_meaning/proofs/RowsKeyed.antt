-- The rows of tables that hold some contents are the rows at the keys, and no others.
use Rattle.std.proofs.Common.{◌≡◌, Bool, true, false, cond, List, [], ◌∷◌, map, find, Option, Some, None, option_map, refl, sym, ap, ap₂, subst, ◌∙◌, inl, inr, true≢false}
use Rattle.std.proofs.lemmas.Option.{none-some, same_Some}
use Rattle.sqlite_value.specs.Order.{Row}
use Rattle.sqlite_value.specs.Keys.{plain}
use Rattle.sqlite_rules.specs.Lists.{Has}
use Rattle.sqlite_rules.proofs.KeyLemmas.{agree_back, agree_chain}
use Rattle.sqlite_rules.proofs.ProbeLemmas.{mapped_has, has_mapped}
use Rattle.sqlite.specs.Effect.{Database}
use Rattle.sqlite_trees.specs.Tree.{Trees}
use Rattle.table_meaning.specs.declared.tables.TableName.{TableName}
use Rattle.table_meaning.specs.declared.rows.StoredRow.{StoredRow}
use Rattle.table_meaning.specs.Holding.{AreKnown, Contents, Hold}
use Rattle.table_meaning.specs.Rows.{RowKey, tree_of, key_places, shown, rows_in, columns_of, table_at, key_columns, slots_of, has_key, look_up}
use Rattle.table_meaning.proofs.EachRow.{columns_told}
use Rattle.table_meaning.proofs.RowsHeld.{found}

-- the one member that passes is found
find_one : {X : Type 0} (p : X → Bool) (xs : List X) (x : X) → Has xs x → p x ≡ true → ((y : X) → Has xs y → p y ≡ true → y ≡ x) → find p xs ≡ Some x
find_one p [] x has passes one = absurd has
find_one {X} p (y ∷ ys) x has passes one = go (p y) refl (λ later. find_one p ys x later passes (λ z in_ys. one z (inr in_ys)))
  where
    go : (b : Bool) → p y ≡ b → (Has ys x → find p ys ≡ Some x) → cond b (Some y) (find p ys) ≡ Some x
    go true here more = ap Some (one y (inl refl) here)
    go false here more = elim has [
      | inl same ↦ absurd (true≢false (sym passes ∙ ap p same ∙ here))
      | inr later ↦ more later
    ]

-- a row of a tree is found by its key
pub found_by_key : (db : Database) → AreKnown db → (key : RowKey) (raw : Row) → Has (db.trees (tree_of (table_at key))) raw → has_key key raw ≡ true → find (has_key key) (db.trees (tree_of (table_at key))) ≡ Some raw
found_by_key db known key raw has own =
    let t = table_at key in
    find_one (has_key key) (db.trees (tree_of t)) raw has own (λ y in_tree same.
    known.apart t y raw in_tree has (agree_chain plain (key_places t) (slots_of key) (key_places t) y (key_columns key) raw same (agree_back plain (key_places t) (slots_of key) raw (key_columns key) own)))

-- and is the row at it
pub stands_at_key : (db : Database) → AreKnown db → (key : RowKey) (raw : Row) → Has (db.trees (tree_of (table_at key))) raw → has_key key raw ≡ true → look_up db.trees key ≡ Some (shown (table_at key) raw)
stands_at_key db known key raw has own = ap (option_map (shown (table_at key))) (found_by_key db known key raw has own)

-- the row at a key is a row of its table
pub row_has : (trees : Trees) (key : RowKey) (row : Row) → look_up trees key ≡ Some row → Has (rows_in trees (table_at key)) row
row_has trees key row is = elim (found (has_key key) (trees (tree_of (table_at key)))) [
  | inl none ↦ absurd (none-some row (sym (ap (option_map (shown (table_at key))) none.0) ∙ is))
  | inr one ↦
      subst (Has (rows_in trees (table_at key))) (same_Some (shown (table_at key) one.0) row (sym (ap (option_map (shown (table_at key))) one.1) ∙ is))
      (mapped_has (shown (table_at key)) (trees (tree_of (table_at key))) one.0 one.2)
]

-- rows are determined by their columns, one by one
pub all_told : (rows others : List StoredRow) → map columns_of rows ≡ map columns_of others → rows ≡ others
all_told [] [] same = refl
all_told [] (s ∷ others) same = cc
all_told (r ∷ rows) [] same = cc
all_told (r ∷ rows) (s ∷ others) same =
    let first : columns_of r ≡ columns_of s = cc in
    let rest : map columns_of rows ≡ map columns_of others = cc in
    ap₂ (λ x xs. x ∷ xs) (columns_told r s first) (all_told rows others rest)

module _ (db : Database) (contents : Contents) (holds : Hold db contents) where
  -- a row of the tree shows the row held at its key
  pub shown_stands : (key : RowKey) (raw : Row) → Has (db.trees (tree_of (table_at key))) raw → has_key key raw ≡ true → (r : StoredRow) × (contents key ≡ Some r) × (shown (table_at key) raw ≡ columns_of r)
  shown_stands key raw has own = go (contents key) refl (sym (stands_at_key db holds.known key raw has own) ∙ holds.rows key)
    where
      go : (o : Option StoredRow) → contents key ≡ o → Some (shown (table_at key) raw) ≡ option_map columns_of o → (r : StoredRow) × (contents key ≡ Some r) × (shown (table_at key) raw ≡ columns_of r)
      go None is shows = absurd (none-some _ (sym shows))
      go (Some r) is shows = (r, is, same_Some _ _ shows)

  -- all rows of a table are typed rows
  pub rows_told : (t : TableName) → (rows : List StoredRow) × (map columns_of rows ≡ rows_in db.trees t)
  rows_told t = each_told (db.trees (tree_of t)) (λ raw has.
      let own = holds.keyed t raw has in
      let stands = shown_stands own.0 raw (subst (λ u. Has (db.trees (tree_of u)) raw) (sym own.1) has) own.2 in
      (stands.0, subst (λ u. shown u raw ≡ columns_of stands.0) own.1 stands.2))
    where
      each_told : (raws : List Row) → ((raw : Row) → Has raws raw → (r : StoredRow) × (shown t raw ≡ columns_of r)) → (rows : List StoredRow) × (map columns_of rows ≡ map (shown t) raws)
      each_told [] told = ([], refl)
      each_told (raw ∷ raws) told =
          let first = told raw (inl refl) in
          let rest = each_told raws (λ r has. told r (inr has)) in
          (first.0 ∷ rest.0, ap₂ (λ x xs. x ∷ xs) (sym first.1) rest.1)

  -- the rows that were read from a table
  module _ (t : TableName) (rows : List StoredRow) (read : map columns_of rows ≡ rows_in db.trees t) where
    -- are at keys of that table
    pub rows_stand : (r : StoredRow) → Has rows r → (key : RowKey) × (table_at key ≡ t) × (contents key ≡ Some r)
    rows_stand r has =
        let raw = has_mapped (shown t) (db.trees (tree_of t)) (columns_of r) (subst (λ l. Has l (columns_of r)) read (mapped_has columns_of rows r has)) in
        let own = holds.keyed t raw.0 raw.1 in
        let stands = shown_stands own.0 raw.0 (subst (λ u. Has (db.trees (tree_of u)) raw.0) (sym own.1) raw.1) own.2 in
        (own.0, own.1, stands.1 ∙ ap Some (columns_told stands.0 r (sym stands.2 ∙ ap (λ u. shown u raw.0) own.1 ∙ sym raw.2)))

    -- and every row at such a key is among them
    pub all_are_read : (key : RowKey) → table_at key ≡ t → (r : StoredRow) → contents key ≡ Some r → Has rows r
    all_are_read key at r is =
        let row = row_has db.trees key (columns_of r) (holds.rows key ∙ ap (option_map columns_of) is) in
        let one = has_mapped columns_of rows (columns_of r) (subst (λ l. Has l (columns_of r)) (sym read) (subst (λ u. Has (rows_in db.trees u) (columns_of r)) at row)) in
        subst (Has rows) (sym (columns_told r one.0 one.2)) one.1
