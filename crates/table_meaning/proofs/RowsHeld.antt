-- The row at a key, if a table was read as typed rows.
use Rattle.std.proofs.Common.{◌≡◌, ◌⊎◌, Bool, true, false, ◌&&◌, cond, List, [], ◌∷◌, map, find, Option, Some, None, option_map, refl, sym, ap, subst, ◌∙◌, inl, inr, true≢false, ℕ, zero, suc, ◌<◌, length, get_or, arith}
use Rattle.std.specs.Prelude.{unwrap_or}
use Rattle.std.proofs.lemmas.Bool.{eq-eqb}
use Rattle.std.proofs.lemmas.Option.{none-some}
use Rattle.sqlite_value.specs.Order.{Row}
use Rattle.sqlite_value.specs.Keys.{plain}
use Rattle.sqlite_trees.specs.Tree.{Trees}
use Rattle.sqlite_schema.specs.Rules.{agree}
use Rattle.sqlite_rules.specs.Lists.{Has}
use Rattle.sqlite_rules.proofs.ProbeLemmas.{mapped_has, has_mapped}
use Rattle.table_meaning.specs.declared.tables.TableName.{TableName}
use Rattle.table_meaning.specs.declared.rows.StoredRow.{StoredRow}
use Rattle.table_meaning.specs.Holding.{HaveKeys}
use Rattle.table_meaning.specs.Rows.{tree_of, key_places, shown, rows_in, columns_of, RowKey, table_at, key_columns, row_key_of, slots_of, has_key, same_row_key, look_up}
use Rattle.table_meaning.proofs.PutRows.{agree_from}
use Rattle.table_meaning.proofs.Keys.{one_key, key_itself}
use Rattle.table_meaning.proofs.TypedRows.{row_key_shown}

-- ---- lists

pub found : {X : Type 0} (p : X → Bool) (xs : List X) → ((find p xs ≡ None) × ((x : X) → Has xs x → p x ≡ false)) ⊎ ((x : X) × (find p xs ≡ Some x) × Has xs x × (p x ≡ true))
found p [] = inl (refl, λ x has. absurd has)
found {X} p (x ∷ xs) = go (p x) refl (found p xs)
  where
    go : (b : Bool) → p x ≡ b → ((find p xs ≡ None) × ((y : X) → Has xs y → p y ≡ false)) ⊎ ((y : X) × (find p xs ≡ Some y) × Has xs y × (p y ≡ true))
        → ((cond b (Some x) (find p xs) ≡ None) × ((y : X) → Has (x ∷ xs) y → p y ≡ false)) ⊎ ((y : X) × (cond b (Some x) (find p xs) ≡ Some y) × Has (x ∷ xs) y × (p y ≡ true))
    go true here more = inr (x, refl, inl refl, here)
    go false here (inl none) = inl (none.0, λ y has. elim has [ inl same ↦ ap p same ∙ here | inr later ↦ none.1 y later ])
    go false here (inr one) = inr (one.0, one.1, inr one.2, one.3)

-- ---- the row at a key

pub has_key_is : (s : StoredRow) (raw : Row) (key : RowKey) → shown (table_at (row_key_of s)) raw ≡ columns_of s → table_at key ≡ table_at (row_key_of s) → has_key key raw ≡ same_row_key key (row_key_of s)
has_key_is s raw key is same =
    ap (λ t. agree plain (key_places t) raw (slots_of key) (key_columns key)) same
    ∙ agree_from plain (key_places (table_at (row_key_of s))) (slots_of (row_key_of s)) (slots_of key) raw (key_columns (row_key_of s)) (key_columns key) (row_key_shown s raw is)
    ∙ sym (ap (λ b. b && agree plain (slots_of (row_key_of s)) (key_columns (row_key_of s)) (slots_of key) (key_columns key)) (eq-eqb (tree_of (table_at key)) (tree_of (table_at (row_key_of s))) (ap tree_of same)))

-- a row of the tree has the key of the typed row that it shows
pub has_own_key : (s : StoredRow) (raw : Row) → shown (table_at (row_key_of s)) raw ≡ columns_of s → has_key (row_key_of s) raw ≡ true
has_own_key s raw is = has_key_is s raw (row_key_of s) is refl ∙ key_itself (row_key_of s)

module _ (trees : Trees) (t : TableName) (rows : List StoredRow) (read : map columns_of rows ≡ rows_in trees t) (of_table : (r : StoredRow) → Has rows r → table_at (row_key_of r) ≡ t) where
  -- each row of the tree was read, and each row that was read is in the tree
  read_of : (raw : Row) → Has (trees (tree_of t)) raw → (s : StoredRow) × Has rows s × (shown t raw ≡ columns_of s)
  read_of raw has = has_mapped columns_of rows (shown t raw) (subst (λ l. Has l (shown t raw)) (sym read) (mapped_has (shown t) (trees (tree_of t)) raw has))

  raw_of : (s : StoredRow) → Has rows s → (raw : Row) × Has (trees (tree_of t)) raw × (columns_of s ≡ shown t raw)
  raw_of s has = has_mapped (shown t) (trees (tree_of t)) (columns_of s) (subst (λ l. Has l (columns_of s)) read (mapped_has columns_of rows s has))

  key_test : (s : StoredRow) (raw : Row) (key : RowKey) → table_at key ≡ t → Has rows s → shown t raw ≡ columns_of s → has_key key raw ≡ same_row_key key (row_key_of s)
  key_test s raw key at has is = has_key_is s raw key (subst (λ u. shown u raw ≡ columns_of s) (sym (of_table s has)) is) (at ∙ sym (of_table s has))

  -- each row of the tree has a key
  pub keyed_by : HaveKeys t (trees (tree_of t))
  keyed_by raw has =
      let s = read_of raw has in
      (row_key_of s.0, of_table s.0 s.1, has_own_key s.0 raw (subst (λ u. shown u raw ≡ columns_of s.0) (sym (of_table s.0 s.1)) s.2))

  -- if the row at the key is among the rows that were read, and each of them with the key is that row
  pub held_at : (key : RowKey) → table_at key ≡ t → (o : Option StoredRow) → ((r : StoredRow) → o ≡ Some r → Has rows r × (row_key_of r ≡ key)) → ((r : StoredRow) → Has rows r → row_key_of r ≡ key → o ≡ Some r)
      → look_up trees key ≡ option_map columns_of o
  held_at key at o among is =
      subst (λ u. option_map (shown u) (find (has_key key) (trees (tree_of u))) ≡ option_map columns_of o) (sym at) (elim (found (has_key key) (trees (tree_of t))) [
        | inl none ↦ ap (option_map (shown t)) none.0 ∙ nothing o refl none.1
        | inr one ↦
            let s = read_of one.0 one.2 in
            let same : row_key_of s.0 ≡ key = sym (one_key key (row_key_of s.0) (sym (key_test s.0 one.0 key at s.1 s.2) ∙ one.3)) in
            ap (option_map (shown t)) one.1 ∙ ap Some s.2 ∙ sym (ap (option_map columns_of) (is s.0 s.1 same))
      ])
    where
      nothing : (p : Option StoredRow) → o ≡ p → ((raw : Row) → Has (trees (tree_of t)) raw → has_key key raw ≡ false) → None ≡ option_map columns_of p
      nothing None stands all = refl
      nothing (Some r) stands all =
          let here = among r stands in
          let raw = raw_of r here.0 in
          absurd (true≢false (sym (ap (λ k. same_row_key key k) here.1 ∙ key_itself key) ∙ sym (key_test r raw.0 key at here.0 (sym raw.2)) ∙ all raw.0 raw.1))

  -- a row found at a key was read, and has the key
  pub held_row : (key : RowKey) → table_at key ≡ t → (row : Row) → look_up trees key ≡ Some row → (s : StoredRow) × Has rows s × (row ≡ columns_of s) × (row_key_of s ≡ key)
  held_row key at row is = go (found (has_key key) (trees (tree_of t))) (sym (ap (λ u. option_map (shown u) (find (has_key key) (trees (tree_of u)))) at) ∙ is)
    where
      go : ((find (has_key key) (trees (tree_of t)) ≡ None) × ((x : Row) → Has (trees (tree_of t)) x → has_key key x ≡ false))
          ⊎ ((x : Row) × (find (has_key key) (trees (tree_of t)) ≡ Some x) × Has (trees (tree_of t)) x × (has_key key x ≡ true))
          → option_map (shown t) (find (has_key key) (trees (tree_of t))) ≡ Some row → (s : StoredRow) × Has rows s × (row ≡ columns_of s) × (row_key_of s ≡ key)
      go (inl none) found_row = absurd (none-some row (sym (ap (option_map (shown t)) none.0) ∙ found_row))
      go (inr one) found_row =
          let s = read_of one.0 one.2 in
          let shows : Some (shown t one.0) ≡ Some row = sym (ap (option_map (shown t)) one.1) ∙ found_row in
          (s.0, s.1, ap (λ o. unwrap_or o row) (sym shows) ∙ s.2, sym (one_key key (row_key_of s.0) (sym (key_test s.0 one.0 key at s.1 s.2) ∙ one.3)))

pub has_get_or : {X : Type 0} (xs : List X) (i : ℕ) (d : X) → i < length xs → Has xs (get_or xs i d)
has_get_or [] i d within = absurd (omega (arith, within))
has_get_or (x ∷ xs) zero d within = inl refl
has_get_or (x ∷ xs) (suc i) d within = inr (has_get_or xs i d (omega (arith, within)))
