-- What the steps of an upgrade do to the tables, from what their statements do.
use Rattle.std.proofs.Common.{◌≡◌, ◌≢◌, ◌+◌, ◌-◌, ℕ, suc, true, false, cond, List, [], ◌∷◌, map, find, fold, Option, Some, None, Ok, option_map, unwrap_or, refl, sym, ap, subst, ◌∙◌, inl, inr, true≢false, arith}
use Rattle.std.specs.Prelude.{◌==◌}
use Rattle.std.specs.List.{AllByRecursion}
use Rattle.std.proofs.lemmas.Bool.{cases_Bool, eqb-true, eq-eqb}
use Rattle.std.proofs.lemmas.Option.{none-some, same_Some}
use Rattle.sqlite_value.specs.Order.{Row, column}
use Rattle.sqlite_trees.specs.declared.store.Shape.TheVariants.{Table as TableTree}
use Rattle.sqlite_trees.specs.Tree.{Trees, rowid}
use Rattle.sqlite_trees.specs.View.{IsShaped}
use Rattle.sqlite.specs.Effect.{Database, IsDatabase}
use Rattle.sqlite.specs.State.{State, ExecutesInside}
use Rattle.table_meaning.specs.declared.tables.Fill.{Fill}
use Rattle.table_meaning.specs.declared.tables.TableName.TheVariants as table
use Rattle.table_meaning.specs.Layouts.{Layout, former_kept, column_places}
use Rattle.table_meaning.specs.Schema.{newest, schema_at}
use Rattle.table_meaning.specs.Texts.{put_text}
use Rattle.table_meaning.specs.Rows.{tree_of, whole, columns_of, RowKey, table_at}
use Rattle.table_meaning.specs.Holding.{Contents}
use Rattle.table_meaning.specs.Schemas.{IsSchema, IsEarlier, has_tree, only_at, HoldAt}
use Rattle.table_meaning.specs.Making.{AreStillToMake, rows_at}
use Rattle.table_meaning.specs.Fills.{fills_of, source_of, target_of, schema_with, filled_row, filled_from, numbered_row, Keeps, with_filled, FillsEach, HostCalls, KeepCalls, brought, with_inserted}
use Rattle.table_meaning.specs.Upgrades.{schema_row_of, PutsSchema, MakesNext, Goes, Upgrades}
use Rattle.table_meaning.proofs.EachSchema.{LeadsTo, AreDistinct, taken_from, HaveNumbers, of_schema, of_step, of_fill, are_fit, is_brought}
use Rattle.table_meaning.proofs.Filling.{begun, key_target, calls_stay}
use Rattle.table_meaning.proofs.LookUps.{hold_put_at}
use Rattle.table_meaning.proofs.Reading.{is_of, number_is}
use Rattle.table_meaning.proofs.PutFacts.{facts_at}
use Rattle.table_meaning.proofs.Putting.{puts}
use Rattle.table_meaning.proofs.RowsHeld.{found}
use Rattle.table_meaning.proofs.SchemaTables.{at_tree, has_settings, stays_made, hold_made, hold_at_same, same_number}
use Rattle.table_meaning.proofs.EachRow.{typed}

-- ---- the row that names the schema

pub schema_put : (n : ℕ) → IsSchema n → (old new : State) (count : ℕ) → ExecutesInside 0 (put_text table.Setting) (columns_of (schema_row_of n)) old new (Ok count) → PutsSchema n old.now new.now
schema_put n is old new count h contents holds =
    let row = schema_row_of n in
    let stands = has_settings n is in
    let shaped = at_tree n (λ tree. IsShaped TableTree (old.now.trees tree)) holds.known.ordered (tree_of table.Setting) stands in
    let ran = puts n is table.Setting (columns_of row) (facts_at n table.Setting (of_schema n is).puts (columns_of row) (typed row)) old new holds.known.schema shaped (holds.known.apart table.Setting stands) count h.0 in
    hold_put_at n row old.now new.now ran.0 ran.1 ran.2 contents holds

-- ---- rows of the tables that a fill reads

-- the row of a number begins with that number
number_first : (l : Layout) (trees : Trees) → IsShaped TableTree (trees l.tree) → (n : ℕ) (c : Row) → numbered_row l trees n ≡ Some c → (r : Row) × (map (column r) (column_places l) ≡ c) × (rowid r ≡ whole n)
number_first l trees shaped n c is = elim (found (is_of n) (trees l.tree)) [
  | inl none ↦ absurd (none-some _ (sym (ap (option_map (λ row. map (column row) (column_places l))) none.0) ∙ is))
  | inr one ↦ (one.0, same_Some _ _ (sym (ap (option_map (λ row. map (column row) (column_places l))) one.1) ∙ is), number_is (trees l.tree) shaped n one.0 one.2 one.3)
]

-- ---- what a fill inserts

module _ (calls : HostCalls) (contents : Contents) where
  -- the source has its rows, each with its number
  are_kept : (f : Fill) (db : Database) → HoldAt (schema_with f) db contents → (schema_with f ≡ 2 → KeepCalls db.trees calls) → Keeps (source_of f) db.trees (taken_from calls contents f)
  are_kept f db holds kept = record {
    ordered = at_tree (schema_with f) (λ tree. IsShaped TableTree (db.trees tree)) holds.known.ordered (source_of f).tree (of_fill f).source_exists;
    kept = (of_fill f).rows_are calls contents db.trees holds.rows kept;
  }

  have_numbers : (f : Fill) (trees : Trees) → Keeps (source_of f) trees (taken_from calls contents f) → HaveNumbers calls contents f
  have_numbers f trees kept n c is = number_first (source_of f) trees kept.ordered n c (kept.kept n ∙ is)

  -- The filled rows are what the fill inserts, and no other row is filled.
  all_brought : (f : Fill) → HaveNumbers calls contents f → ((key : RowKey) → (tree_of (table_at key) == tree_of (target_of f)) ≡ true → contents key ≡ None) → (key : RowKey)
      → with_filled f contents (taken_from calls contents f) key ≡ with_inserted calls contents f key
  all_brought f numbers none key = elim (cases_Bool (tree_of (table_at key) == tree_of (target_of f))) [
    | inl here ↦ is_brought calls contents f numbers key here (none key here) ∙ sym (ap (λ b. cond b (brought f calls contents key) (contents key)) here)
    | inr other ↦ elsewhere (filled_from f key) refl other ∙ sym (ap (λ b. cond b (brought f calls contents key) (contents key)) other)
  ]
    where
      elsewhere : (o : Option ℕ) → filled_from f key ≡ o → (tree_of (table_at key) == tree_of (target_of f)) ≡ false
          → unwrap_or (option_map (λ n. option_map (filled_row f n) (taken_from calls contents f n)) o) (contents key) ≡ contents key
      elsewhere None is other = refl
      elsewhere (Some n) is other = absurd (true≢false (sym (eq-eqb _ _ (ap tree_of (key_target f key n is))) ∙ other))

-- ---- the fills of a step, one after another

-- the table that is filled is still empty
abbrev IsEmptyFor : Contents → Fill → Type 0
IsEmptyFor contents f = (key : RowKey) → (tree_of (table_at key) == tree_of (target_of f)) ≡ true → contents key ≡ None

module _ (n : ℕ) (calls : HostCalls) where
  -- a fill leaves the tables empty that the other fills fill
  still_empty : (f : Fill) (contents : Contents) (more : List Fill) → AllByRecursion (λ g. (tree_of (target_of g) == tree_of (target_of f)) ≡ false) more → AllByRecursion (IsEmptyFor contents) more
      → AllByRecursion (IsEmptyFor (with_inserted calls contents f)) more
  still_empty f contents [] apart empty = tt
  still_empty f contents (g ∷ more) apart empty = (here, still_empty f contents more apart.1 empty.1)
    where
      here : IsEmptyFor (with_inserted calls contents f) g
      here key at =
          let other : (tree_of (table_at key) == tree_of (target_of f)) ≡ false = ap (λ tree. tree == tree_of (target_of f)) (eqb-true _ _ at) ∙ apart.0 in
          ap (λ b. cond b (brought f calls contents key) (contents key)) other ∙ empty.0 key at

  each_filled : (fs : List Fill) → AllByRecursion (LeadsTo n) fs → AreDistinct fs → (old new : Database) (contents : Contents) → HoldAt (n + 1) old contents → AllByRecursion (IsEmptyFor contents) fs
      → (n ≡ 1 → KeepCalls old.trees calls) → FillsEach fs old new → HoldAt (n + 1) new (fold (with_inserted calls) contents fs)
  each_filled [] lead apart old new contents holds empty kept fills = subst (λ db. HoldAt (n + 1) db contents) (sym fills) holds
  each_filled (f ∷ more) lead apart old new contents holds empty kept fills =
      let at : schema_with f ≡ n + 1 = lead.0.0 in
      let here = subst (λ m. HoldAt m old contents) (sym at) holds in
      let rows = taken_from calls contents f in
      let source = are_kept calls contents f old here (λ two. kept (omega (arith, two, at))) in
      let none = λ (key : RowKey) (is : table_at key ≡ target_of f). empty.0 key (eq-eqb _ _ (ap tree_of is)) in
      let numbers = have_numbers calls contents f old.trees source in
      let all = fills.1 old contents rows (are_fit calls contents f numbers) (begun f old contents rows here none source) in
      let then = hold_at_same (n + 1) fills.0 _ _ (λ key _. all_brought calls contents f numbers empty.0 key) (subst (λ m. HoldAt m fills.0 (with_filled f contents rows)) at all.holds) in
      each_filled more lead.1 apart.1 fills.0 new (with_inserted calls contents f) then (still_empty f contents more apart.0 empty.1) (λ one. calls_stay f old.trees fills.0.trees all.others calls (kept one)) fills.2

-- ---- a step

-- tables that the schema before lacks hold nothing
new_are_empty : (n : ℕ) (contents : Contents) (fs : List Fill) → AllByRecursion (LeadsTo n) fs → AllByRecursion (IsEmptyFor (only_at n contents)) fs
new_are_empty n contents [] lead = tt
new_are_empty n contents (f ∷ more) lead =
    (λ key at. ap (λ b. cond b (contents key) None) (ap (has_tree n) (eqb-true _ _ at) ∙ lead.0.1), new_are_empty n contents more lead.1)

pub next_made : (n : ℕ) → IsEarlier n → (old made filled new : Database) → (old.schema ≡ schema_at n → AreStillToMake (schema_at (n + 1)) (rows_at n old.trees) [] made × (IsDatabase old → IsDatabase made))
    → FillsEach (fills_of n) made filled → PutsSchema (n + 1) filled new → MakesNext n old new
next_made n earlier old made filled new makes fills put contents calls holds =
    let left = makes holds.held.known.schema in
    let base = hold_made n (n + 1) old made left.0 (left.1 holds.held.known.sound) contents holds.held in
    let it = of_step n earlier in
    put _ (each_filled n calls (fills_of n) it.lead it.distinct made filled (only_at n contents) base (new_are_empty n contents (fills_of n) it.lead) kept fills)
  where
    kept : n ≡ 1 → KeepCalls made.trees calls
    kept one =
        let left = subst (λ m. AreStillToMake (schema_at (m + 1)) (rows_at m old.trees) [] made) one (makes holds.held.known.schema).0 in
        let same : made.trees former_kept.tree ≡ old.trees former_kept.tree = stays_made 1 2 old made left former_kept.tree refl refl in
        let was = holds.kept one in
        record {
          ordered = subst (IsShaped TableTree) (sym same) was.ordered;
          kept = λ host. ap (λ all. option_map (λ row. map (column row) (column_places former_kept)) (find (is_of host) all)) same ∙ was.kept host;
        }

-- ---- several steps

-- one step more
pub goes_on : (n k m : ℕ) → n + k ≡ m → (old mid new : Database) → Goes n k old mid → MakesNext m mid new → Goes n (suc k) old new
goes_on n k m is old mid new goes makes = (mid, goes, subst (λ m. MakesNext m mid new) (sym is) makes)

-- tables are of one schema
pub goes_from : (n : ℕ) → IsSchema n → (old new : Database) → old.schema ≡ schema_at n → Goes n (newest - n) old new → Upgrades old new
goes_from n is_n old new is goes m is_m other = subst (λ m. Goes m (newest - m) old new) (same_number n m is_n is_m (sym is ∙ other)) goes
