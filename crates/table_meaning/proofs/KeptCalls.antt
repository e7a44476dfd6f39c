-- What the statement shows that reads the kept calls of a host. The first of them with a slot is the call in that slot.
use Rattle.std.proofs.Common.{◌≡◌, ℕ, pos, Bool, true, false, ◌&&◌, ◌==◌, List, [], ◌∷◌, map, filter, find, slice_get, Option, Some, None, option_map, refl, sym, ap, ◌∙◌, arith, int_eq}
use Rattle.std.proofs.lemmas.Int.{ints}
use Rattle.sqlite_value.specs.declared.keys.Collation.TheVariants.{Binary}
use Rattle.sqlite_value.specs.declared.value.Value.TheVariants.{Null}
use Rattle.sqlite_value.specs.Order.{Row, column}
use Rattle.sqlite_value.specs.Keys.{first_key}
use Rattle.sqlite_trees.specs.Tree.{Trees}
use Rattle.sqlite_sql.specs.declared.ops.CompareOp.TheVariants.{Eq}
use Rattle.sqlite_schema.specs.declared.command.Command.TheVariants.{Select}
use Rattle.sqlite_schema.specs.Rules.{equal}
use Rattle.sqlite_keyed.proofs.ListLemmas.{map-map, map_same, filter-map, slice_get-filter}
use Rattle.sqlite_typed.proofs.TestLemmas.{at_ints, last_term}
use Rattle.sqlite_tied.specs.Compute.{everything}
use Rattle.sqlite.specs.State.{State, Shown}
use Rattle.sqlite.specs.Listing.{understood, reads_listing}
use Rattle.sqlite.proofs.Callers.{IsPlain, command_of, reads_as}
use Rattle.table_meaning.specs.declared.tables.TableName.TheVariants.{Kept}
use Rattle.table_meaning.specs.declared.rows.StoredCall.{StoredCall}
use Rattle.table_meaning.specs.declared.rows.StoredRow.TheVariants as stored
use Rattle.table_meaning.specs.Schema.{stored_schema}
use Rattle.table_meaning.specs.Rows.{tree_of, places_of, shown, whole, columns_of, kept_key, look_up}
use Rattle.table_meaning.specs.ByKey.{kept_calls_text, kept_rows, key_tests, key_query}
use Rattle.table_meaning.specs.Formats.{columns_in}
use Rattle.table_meaning.specs.Holding.{AreKnown}
use Rattle.table_meaning.specs.Kept.{call_of, calls_in}
use Rattle.table_meaning.proofs.ByComputing.{names_of}
use Rattle.table_meaning.proofs.PlacesLists.{filter-passed, find-map}
use Rattle.table_meaning.proofs.Reading.{own_rows, passing_rows}

calls_are_read : (command_of (understood stored_schema kept_calls_text) ≡ Select (record { lets = []; body = key_query (tree_of Kept) (1 ∷ []) (places_of Kept) }) (names_of Kept)) × IsPlain (understood stored_schema kept_calls_text)
    × (reads_listing stored_schema kept_calls_text ≡ false)
unfolding understood everything
calls_are_read = (refl, (refl, refl), refl)

pub calls_shown : (host : ℕ) (old new : State) → AreKnown old.now → (rows : List Row) → Shown kept_calls_text (whole host ∷ []) old new rows → map (λ row. columns_in row 5) rows ≡ kept_rows old.now.trees host
calls_shown host old new known rows h =
    let params = whole host ∷ [] in
    let tree = old.now.trees (tree_of Kept) in
    let is_of = λ (row : Row). equal Binary (column row 0) (whole host) in
    let read = reads_as kept_calls_text params old new stored_schema known.schema _ calls_are_read.0 calls_are_read.1 calls_are_read.2 rows h in
    let passed = passing_rows old.now.trees (tree_of Kept) (key_tests 0 (1 ∷ [])) params (λ r. is_of (shown Kept r)) (own_rows Kept old.now.trees) (known.ordered Kept) (λ n. last_term refl) (places_of Kept) rows (read.answer Null) in
    let its = filter (λ r. is_of (shown Kept r)) tree in
    ap (map (λ row. columns_in row 5)) passed ∙ map-map (λ row. columns_in row 5) (shown Kept) its ∙ map_same _ (shown Kept) (λ r. refl) its ∙ sym (filter-map is_of (shown Kept) tree)

-- ---- the call in a slot

find-passed : {X : Type 0} (p q : X → Bool) (xs : List X) → find q (filter p xs) ≡ find (λ x. p x && q x) xs
find-passed p q xs = sym (slice_get-filter q (filter p xs)) ∙ ap (λ l. slice_get l 0) (sym (filter-passed q p xs)) ∙ slice_get-filter (λ x. p x && q x) xs

same_number : (a b : ℕ) → int_eq (pos a) (pos b) ≡ (a == b)
same_number a b = grind (arith, ints)

abbrev columns : StoredCall → Row
columns k = columns_of (stored.Kept k)

-- The first row that has a slot is the row at that slot.
stands_first : (trees : Trees) (host slot : ℕ) (ks : List StoredCall) → map columns ks ≡ kept_rows trees host → option_map columns (find (λ k. k.slot == slot) ks) ≡ look_up trees (kept_key host slot)
unfolding first_key
stands_first trees host slot ks are =
    let tree = trees (tree_of Kept) in
    let is_of = λ (row : Row). equal Binary (column row 0) (whole host) in
    let has_slot = λ (row : Row). equal Binary (column row 1) (whole slot) && true in
    let of_slot = λ (k : StoredCall). last_term (at_ints false Eq (pos k.slot) (pos slot) ∙ same_number k.slot slot) in
    sym (find-map columns has_slot (λ k. k.slot == slot) of_slot ks) ∙ ap (find has_slot) (are ∙ filter-map is_of (shown Kept) tree) ∙ find-map (shown Kept) has_slot _ (λ r. refl) (filter (λ r. is_of (shown Kept r)) tree)
    ∙ ap (option_map (shown Kept)) (find-passed (λ r. is_of (shown Kept r)) (λ r. has_slot (shown Kept r)) tree)

-- the call of a row, if there is one
call_told : (o : Option StoredCall) → option_map (λ k. call_of (columns k)) o ≡ option_map call_of (option_map columns o)
call_told None = refl
call_told (Some k) = refl

pub calls_in_rows : (trees : Trees) (host slot : ℕ) (ks : List StoredCall) → map columns ks ≡ kept_rows trees host → option_map (λ k. call_of (columns k)) (find (λ k. k.slot == slot) ks) ≡ calls_in trees host slot
calls_in_rows trees host slot ks are = call_told (find (λ k. k.slot == slot) ks) ∙ ap (option_map call_of) (stands_first trees host slot ks are)
