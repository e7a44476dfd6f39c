-- The rows of a table by their numbers, one after another: the next row.
use Rattle.std.proofs.Common.{◌≡◌, ℕ, ◌≤◌, pos, ◌<ℤ◌, Bool, true, false, cond, List, [], ◌∷◌, map, find, slice_get, Option, Some, None, option_map, unwrap_or, refl, sym, ap, subst, ◌∙◌, arith, int_eq, int_le}
use Rattle.std.proofs.lemmas.Int.{ints}
use Rattle.std.proofs.lemmas.Option.{none-some}
use Rattle.sqlite_value.specs.declared.value.Value.TheVariants.{Null, Int}
use Rattle.sqlite_value.specs.Order.{Row, column}
use Rattle.sqlite_value.specs.Keys.{first_key}
use Rattle.sqlite_trees.specs.declared.store.Shape.TheVariants.{Table as TableTree}
use Rattle.sqlite_trees.specs.Tree.{Trees, rowid, IsTable}
use Rattle.sqlite_trees.specs.View.{IsShaped}
use Rattle.sqlite_sql.specs.declared.ops.CompareOp.TheVariants.{Eq, Ge}
use Rattle.sqlite_sql.specs.Term.{lit, col}
use Rattle.sqlite_rules.specs.Edit.{id_in}
use Rattle.sqlite_keyed.specs.Keyed.{IsKeyedBy, get_by}
use Rattle.sqlite_keyed.proofs.ListLemmas.{all_weaker}
use Rattle.sqlite_keyed.proofs.KeyedLemmas.{none_past}
use Rattle.sqlite_typed.proofs.AnswerLemmas.{first_shown}
use Rattle.sqlite_typed.proofs.TestLemmas.{at_ints, last_term}
use Rattle.sqlite.specs.State.{State, Shown}
use Rattle.sqlite.specs.Listing.{understood}
use Rattle.sqlite.proofs.Callers.{IsPlain, reads_as}
use Rattle.table_meaning.specs.declared.tables.Fill.{Fill}
use Rattle.table_meaning.specs.Layouts.{Layout, column_places}
use Rattle.table_meaning.specs.Schema.{schema_at}
use Rattle.table_meaning.specs.Rows.{whole}
use Rattle.table_meaning.specs.Fills.{source_of, schema_with, next_text, numbered_row, IsNextRow}
use Rattle.table_meaning.proofs.EachSchema.{next_terms, of_fill}
use Rattle.table_meaning.proofs.PlacesLists.{find-map}
use Rattle.table_meaning.proofs.Reading.{Numbered, as_row, parted, as_rows, numbers_rise, is_of, projected_rows}
use Rattle.table_meaning.proofs.StepLemmas.{unchanged_shown}

-- ---- rows by their number

is_of_number : (host : ℕ) (x : Numbered) → is_of host (as_row x) ≡ int_eq x.0 (pos host)
unfolding first_key
is_of_number host x = last_term (at_ints false Eq x.0 (pos host))

abbrev is_from : ℕ → Row → Bool
is_from from r = int_le (pos from) (id_in (rowid r))

-- no row has a number between `from` and the first number found from there on
none_before : (xs : List Numbered) → IsKeyedBy (λ (x : Numbered). x.0) xs → (from host : ℕ) → from ≤ host → ((y : Numbered) → find (λ x. int_le (pos from) x.0) xs ≡ Some y → pos host <ℤ y.0)
    → get_by (λ (x : Numbered). x.0) xs (pos host) ≡ None
none_before [] up from host le before = refl
none_before (x ∷ xs) up from host le before = go (int_le (pos from) x.0) refl (none_before xs up.1 from host le)
  where
    go : (b : Bool) → int_le (pos from) x.0 ≡ b → (((y : Numbered) → find (λ z. int_le (pos from) z.0) xs ≡ Some y → pos host <ℤ y.0) → get_by (λ (y : Numbered). y.0) xs (pos host) ≡ None)
        → get_by (λ (y : Numbered). y.0) (x ∷ xs) (pos host) ≡ None
    go true passes later =
        let first : pos host <ℤ x.0 = before x (rw passes refl) in
        none_past (λ (y : Numbered). y.0) (x ∷ xs) (pos host) (first, all_weaker (λ (y : Numbered). x.0 <ℤ y.0) (λ (y : Numbered). pos host <ℤ y.0) (λ y lt. omega (arith, ints, first, lt)) xs up.0)
    go false low later =
        let apart : int_eq x.0 (pos host) ≡ false = grind (arith, ints) in
        rw apart (later (λ y found. before y (rw low found)))

first_passes : (xs : List Numbered) (from : ℕ) (y : Numbered) → find (λ (x : Numbered). int_le (pos from) x.0) xs ≡ Some y → int_le (pos from) y.0 ≡ true
first_passes [] from y found = cc
first_passes (x ∷ xs) from y found = go (int_le (pos from) x.0) refl found (first_passes xs from y)
  where
    go : (b : Bool) → int_le (pos from) x.0 ≡ b → cond b (Some x) (find (λ (z : Numbered). int_le (pos from) z.0) xs) ≡ Some y → (find (λ (z : Numbered). int_le (pos from) z.0) xs ≡ Some y → int_le (pos from) y.0 ≡ true) → int_le (pos from) y.0 ≡ true
    go true passes here more = subst (λ (z : Numbered). int_le (pos from) z.0 ≡ true) (ap (λ o. unwrap_or o x) here) passes
    go false low here more = more here

module _ (l : Layout) (trees : Trees) (shaped : IsShaped TableTree (trees l.tree)) where
  abbrev in_turn : List Numbered
  in_turn = map parted (trees l.tree)

  is : trees l.tree ≡ map as_row in_turn
  is = as_rows (trees l.tree) shaped.1

  keyed : IsKeyedBy (λ (x : Numbered). x.0) in_turn
  keyed = numbers_rise in_turn (subst IsTable is shaped.0)

  -- the row of a number
  found_at : (host : ℕ) → find (is_of host) (trees l.tree) ≡ option_map as_row (get_by (λ (x : Numbered). x.0) in_turn (pos host))
  found_at host = ap (find (is_of host)) is ∙ find-map as_row (is_of host) _ (is_of_number host) in_turn

  found_from : (from : ℕ) → find (is_from from) (trees l.tree) ≡ option_map as_row (find (λ x. int_le (pos from) x.0) in_turn)
  found_from from = ap (find (is_from from)) is ∙ find-map as_row (is_from from) _ (λ x. refl) in_turn

-- ---- the next one

-- the first number found from `from` on is that of the next row
module _ (l : Layout) (trees : Trees) (shaped : IsShaped TableTree (trees l.tree)) (from : ℕ) where
  none_at : (host : ℕ) → from ≤ host → ((y : Numbered) → find (λ x. int_le (pos from) x.0) (in_turn l trees shaped) ≡ Some y → pos host <ℤ y.0) → numbered_row l trees host ≡ None
  none_at host le before =
      ap (option_map (λ row. map (column row) (column_places l))) (found_at l trees shaped host ∙ ap (option_map as_row) (none_before (in_turn l trees shaped) (keyed l trees shaped) from host le before))

  next_found : (first : Option Numbered) (next : Option ℕ) → find (λ (x : Numbered). int_le (pos from) x.0) (in_turn l trees shaped) ≡ first → option_map whole next ≡ option_map (λ (x : Numbered). Int x.0) first
      → IsNextRow l trees from next
  next_found None None found same = λ host le. none_at host le (λ y is. absurd (none-some y (sym found ∙ is)))
  next_found (Some x) None found same = absurd (none-some _ same)
  next_found None (Some next) found same = absurd (none-some _ (sym same))
  next_found (Some x) (Some next) found same =
      let is_next : pos next ≡ x.0 = ap (λ o. id_in (unwrap_or o Null)) same in
      let passes = first_passes (in_turn l trees shaped) from x found in (
        grind (arith, ints),
        λ host le lt. none_at host le (λ y is.
            let one : x ≡ y = ap (λ o. unwrap_or o x) (sym found ∙ is) in
            subst (λ (z : Numbered). pos host <ℤ z.0) one (omega (arith, ints, lt, is_next))),
      )

first_number : (first : Option Numbered) → option_map (λ r. column r 0) (option_map (λ r. column r 0 ∷ []) (option_map as_row first)) ≡ option_map (λ (x : Numbered). Int x.0) first
first_number None = refl
first_number (Some x) = refl

-- the text of the next row changes nothing, and returns the next number
pub next_told : (f : Fill) (old new : State) → old.now.schema ≡ schema_at (schema_with f) → IsShaped TableTree (old.now.trees (source_of f).tree) → (from : ℕ) (rows : List Row) → Shown (next_text f) (whole from ∷ []) old new rows
    → (next : Option ℕ) → option_map whole next ≡ option_map (λ r. column r 0) (slice_get rows 0) → (new.now ≡ old.now) × IsNextRow (source_of f) old.now.trees from next
next_told f old new known shaped from rows h next told =
    let l = source_of f in
    let trees = old.now.trees in
    let it = of_fill f in
    let show = λ (r : Row). column r 0 ∷ [] in
    let read = reads_as (next_text f) (whole from ∷ []) old new (schema_at (schema_with f)) known _ it.next it.plain_next it.unlisted rows h in
    let paged = projected_rows trees l.tree next_terms (whole from ∷ []) (is_from from) (it.own trees) shaped (λ n. last_term (at_ints false Ge n.0 (pos from))) (col 1 0 ∷ []) [] (lit (Int (pos 1))) rows (read.answer Null) in
    let first = first_shown show (is_from from) (trees l.tree) paged ∙ ap (option_map show) (found_from l trees shaped from) in
    let plain = subst (λ s. IsPlain (understood s (next_text f))) (sym known) it.plain_next in
    ((unchanged_shown (next_text f) (whole from ∷ []) old new rows plain h).0.now_is, next_found l trees shaped from _ next refl (told ∙ ap (option_map (λ r. column r 0)) first ∙ first_number _))
