-- Keys that SQL finds equal are the same key, so the rows that are put are identified by their keys.
use Rattle.std.proofs.Common.{◌≡◌, Bool, true, false, List, [], ◌∷◌, length, Some, refl, sym, ap, ap₂, ◌∙◌, true≢false}
use Rattle.std.specs.Prelude.{◌==◌}
use Rattle.std.specs.List.{AllByRecursion, list_any, range_with_len}
use Rattle.std.proofs.lemmas.Bool.{and_parts, and_from, or_from, eqb-true, eq-eqb}
use Rattle.std.proofs.lemmas.Bool.Decides.{Decides-int_eq}
use Rattle.sqlite_value.specs.declared.value.Value.{Value}
use Rattle.sqlite_value.specs.declared.value.Value.TheVariants.{Int, Text}
use Rattle.sqlite_value.specs.declared.keys.Collation.TheVariants.{Binary}
use Rattle.sqlite_value.specs.Order.{Row, value_cmp}
use Rattle.sqlite_value.specs.Keys.{plain, first_key}
use Rattle.sqlite_sql.specs.declared.ops.CompareOp.TheVariants.{Eq}
use Rattle.sqlite_sql.specs.Ops.{binary}
use Rattle.sqlite_schema.specs.Rules.{agree, equal}
use Rattle.sqlite_keyed.proofs.KeyedLemmas.{same_int}
use Rattle.sqlite_typed.proofs.TestLemmas.{at_ints, at_texts, same_bytes, bytes_eq_refl}
use Rattle.table_meaning.specs.declared.rows.StoredRow.{StoredRow}
use Rattle.table_meaning.specs.Rows.{tree_of, RowKey, table_at, key_columns, row_key_of, same_row_key}
use Rattle.table_meaning.specs.Holding.{Contents, with_row, with_stored_rows}
use Rattle.table_meaning.proofs.EachRow.{is_cell, is_key_row, key_from, key_is}
use Rattle.table_meaning.proofs.EachTable.{same_table}

-- ---- columns of keys: numbers and texts

pub same_cell : (v u : Value) → is_cell v ≡ true → is_cell u ≡ true → equal Binary v u ≡ true → v ≡ u
unfolding value_cmp binary
same_cell (Int n) (Int m) p q h = ap Int (same_int n m (sym (at_ints false Eq n m) ∙ h))
same_cell (Int n) (Text t) p q h = absurd (true≢false (sym h))
same_cell (Text t) (Int m) p q h = absurd (true≢false (sym h))
same_cell (Text s) (Text t) p q h = ap Text (same_bytes s t (sym (at_texts false Eq s t) ∙ h))
same_cell (Int n) _ p q h = absurd (true≢false (sym q))
same_cell (Text t) _ p q h = absurd (true≢false (sym q))
same_cell _ u p q h = absurd (true≢false (sym p))

same_columns : (xs ys : Row) → is_key_row xs ≡ true → is_key_row ys ≡ true → agree plain (range_with_len 0 (length xs)) xs (range_with_len 0 (length ys)) ys ≡ true → xs ≡ ys
unfolding first_key
same_columns (v ∷ []) (u ∷ []) p q h = ap (λ x. x ∷ []) (same_cell v u p q (and_parts _ _ h).0)
same_columns (v ∷ v' ∷ []) (u ∷ u' ∷ []) p q h =
    let ps = and_parts (is_cell v) (is_cell v') p in
    let qs = and_parts (is_cell u) (is_cell u') q in
    let hs = and_parts _ _ h in
    ap₂ (λ x y. x ∷ y ∷ []) (same_cell v u ps.0 qs.0 hs.0) (same_cell v' u' ps.1 qs.1 (and_parts _ _ hs.1).0)
same_columns (v ∷ []) (u ∷ u' ∷ []) p q h = absurd (true≢false (sym (and_parts _ _ h).1))
same_columns (v ∷ v' ∷ []) (u ∷ []) p q h = absurd (true≢false (sym (and_parts _ _ h).1))
same_columns (v ∷ []) _ p q h = absurd (true≢false (sym q))
same_columns (v ∷ v' ∷ []) _ p q h = absurd (true≢false (sym q))
same_columns _ ys p q h = absurd (true≢false (sym p))

pub one_key : (a b : RowKey) → same_row_key a b ≡ true → a ≡ b
one_key a b h =
    let parts = and_parts (tree_of (table_at a) == tree_of (table_at b)) _ h in
    let table = same_table (table_at a) (table_at b) (eqb-true _ _ parts.0) in
    let columns = same_columns (key_columns b) (key_columns a) (key_is b).0 (key_is a).0 parts.1 in
    sym (key_is a).1 ∙ ap₂ key_from table (sym columns) ∙ (key_is b).1

-- every key equals itself
cell_itself : (v : Value) → is_cell v ≡ true → equal Binary v v ≡ true
cell_itself (Int n) h = at_ints false Eq n n ∙ (Decides-int_eq n n).1 refl
cell_itself (Text t) h = at_texts false Eq t t ∙ bytes_eq_refl t
cell_itself _ h = absurd (true≢false (sym h))

columns_themselves : (xs : Row) → is_key_row xs ≡ true → agree plain (range_with_len 0 (length xs)) xs (range_with_len 0 (length xs)) xs ≡ true
unfolding first_key
columns_themselves (v ∷ []) h = and_from _ _ (cell_itself v h) refl
columns_themselves (v ∷ u ∷ []) h = let cells = and_parts (is_cell v) (is_cell u) h in and_from _ _ (cell_itself v cells.0) (and_from _ _ (cell_itself u cells.1) refl)
columns_themselves _ h = absurd (true≢false (sym h))

pub key_itself : (key : RowKey) → same_row_key key key ≡ true
key_itself key = and_from _ _ (eq-eqb (tree_of (table_at key)) _ refl) (columns_themselves (key_columns key) (key_is key).0)

-- ---- what is held after rows are put

abbrev pub is_put : List StoredRow → RowKey → Bool
is_put rows key = list_any (λ row. same_row_key key (row_key_of row)) rows

-- Suppose other contents have each of the rows that are put, and are the same where no row is put. Then they are the contents with these rows put.
pub settled : (old new : Contents) (rows : List StoredRow) → AllByRecursion (λ row. new (row_key_of row) ≡ Some row) rows → ((key : RowKey) → is_put rows key ≡ false → old key ≡ new key)
    → (key : RowKey) → with_stored_rows old rows key ≡ new key
settled old new [] each others key = others key refl
settled old new (row ∷ rows) each others key =
    settled (with_row old row) new rows each.1 (λ k none. step k none (same_row_key k (row_key_of row)) refl) key
  where
    step : (k : RowKey) → is_put rows k ≡ false → (b : Bool) → same_row_key k (row_key_of row) ≡ b → with_row old row k ≡ new k
    step k none true here = rw here (sym (ap new (one_key k (row_key_of row) here) ∙ each.0))
    step k none false here = rw here (others k (or_from _ _ here none))
