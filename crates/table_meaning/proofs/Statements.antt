-- What a statement of the form of `put_command` does: if no row has the key, it adds its row; if not, it updates the row that has the key.
use Rattle.std.proofs.Common.{◌≡◌, ◌⊎◌, ℕ, arith, ◌/◌, ℤ, Bool, true, false, cond, List, [], ◌∷◌, ◌++◌, map, filter, flat_map, length, slice_get, Option, Some, None, option_map, Result, Ok, Err, IfSome, refl, sym, ap, ap₂, subst, ◌∙◌, inl, inr, is_eq, is_lt, int_cmp, MatchBool}
use Rattle.std.specs.Prelude.{◌==◌}
use Rattle.std.specs.Prelude.{zip, filter_map}
use Rattle.std.specs.List.{list_all, cons_option}
use Rattle.std.specs.List.Sorted.{IsPermutation}
use Rattle.std.proofs.lemmas.List.Sorted.{length_permutation}
use Rattle.sqlite_value.specs.declared.value.Value.TheVariants.{Int}
use Rattle.sqlite_value.specs.declared.keys.Collation.TheVariants.{Binary}
use Rattle.sqlite_value.specs.Order.{Row, column, value_cmp}
use Rattle.sqlite_value.proofs.OrderLemmas.{value_cmp-Int}
use Rattle.sqlite_trees.specs.declared.store.Shape.TheVariants.{Table as TableTree}
use Rattle.sqlite_trees.specs.Tree.{Trees, rowid}
use Rattle.sqlite_trees.specs.View.{IsShaped}
use Rattle.sqlite_sql.specs.Term.{Term, eval_all, holds}
use Rattle.sqlite_sql.specs.Program.{overlay}
use Rattle.sqlite_sql.specs.Query.{IsAnswer, Output, output, page}
use Rattle.sqlite_sql.specs.declared.ops.CompareOp.TheVariants.{Eq}
use Rattle.sqlite_schema.specs.declared.schema.Keys.TheVariants.{Enforced}
use Rattle.sqlite_schema.specs.declared.schema.Schema.{Schema}
use Rattle.sqlite_schema.specs.declared.schema.Table.{Table}
use Rattle.sqlite_schema.specs.declared.command.Upsert.{Upsert}
use Rattle.sqlite_schema.specs.declared.command.Conflict.TheVariants.{Abort}
use Rattle.sqlite_rules.specs.declared.error.Rowids.TheVariants.{Chosen, Above, Given}
use Rattle.sqlite_rules.specs.Cast.{cast_row}
use Rattle.sqlite_rules.specs.Keys.{AreConflicts}
use Rattle.sqlite_rules.specs.Edit.{Edit, id_in, with_rowid, edit_of, taken_by, Applies}
use Rattle.sqlite_rules.specs.Action.{pairs, work_by, work_for, works, deed_for, Writes}
use Rattle.sqlite_rules.specs.Calls.{ids_of}
use Rattle.sqlite_rules.specs.Lists.{Has}
use Rattle.sqlite_rules.proofs.ListLemmas.{all_has}
use Rattle.sqlite_rules.proofs.TableLemmas.{int_is}
use Rattle.sqlite_typed.proofs.TestLemmas.{at_ints, last_term}
use Rattle.sqlite_schema.specs.Rules.{equal, parent_key}
use Rattle.sqlite.specs.Effect.{Database, IsDatabase, Answers, value_rows}
use Rattle.sqlite.specs.Does.{Tally, Does, AtPlace, OnRows}
use Rattle.sqlite.specs.Rows.{Task, Written, Tries, TriesEach, Upserts, Puts as PutsNew, Clears, Counts, CountsIn, Gives, count_of, sequence, nothing, rowids_for, stamped, shown}
use Rattle.sqlite.specs.State.{State, mode_of, Executes}
use Rattle.sqlite.specs.Listing.{understood}
use Rattle.sqlite.proofs.Callers.{IsPlain, command_of, statement_of, runs_as, one_step, one_permutation}
use Rattle.table_meaning.specs.declared.tables.TableName.{TableName}
use Rattle.table_meaning.specs.Layouts.{Column, Layout, column_places}
use Rattle.table_meaning.specs.Schema.{reference_at, sql_table, layouts_at, schema_at}
use Rattle.table_meaning.specs.Upserts.{change_query, update_query, update_at, put_command}
use Rattle.table_meaning.proofs.PlacesLists.{kept_for_each}
use Rattle.table_meaning.proofs.PutRows.{only}

-- a part that returned a value did not stop early
pub went : {B E R : Type 0} {b : B} {Stops : E → Type 0} → ((stop : E) × Stops stop × (Ok b ≡ Err stop)) ⊎ R → R
went (inl stopped) = absurd (let e = stopped.2 in cc)
went (inr on) = on

pub same_value : {B E : Type 0} {a b : B} → ◌≡◌ {A = Result B E} (Ok a) (Ok b) → a ≡ b
same_value e = cc

-- ---- no foreign key of the schema does anything

abbrev pub HasNoActs : Schema → Type 0
HasNoActs stored = (tree : ℕ) (olds news : List Row) → works stored Enforced 0 tree olds news ≡ []

module _ (stored : Schema) (tree : ℕ) (olds news : List Row) where
  -- a reference that a layout names does nothing
  no_act : (child : Table) (at : ℕ) (parent : TableName) → work_for stored Enforced 0 tree olds news child (reference_at at parent) ≡ None
  no_act child at parent =
      elim (length news == 0) as (λ b. work_by 0 tree (pairs olds news) child (reference_at at parent) (deed_for Enforced b (reference_at at parent)) (parent_key stored.tables (reference_at at parent)) ≡ None)
      [ true ↦ refl | false ↦ refl ]

  none_act : (child : Table) (columns : List (ℕ × Column)) → filter_map (work_for stored Enforced 0 tree olds news child) (filter_map (λ p. option_map (reference_at p.0) p.1.parent) columns) ≡ []
  none_act child [] = refl
  none_act child (p ∷ columns) = go p.1.parent (none_act child columns)
    where
      go : (o : Option TableName) → filter_map (work_for stored Enforced 0 tree olds news child) (filter_map (λ p. option_map (reference_at p.0) p.1.parent) columns) ≡ []
          → filter_map (work_for stored Enforced 0 tree olds news child) (cons_option (option_map (reference_at p.0) o) (filter_map (λ p. option_map (reference_at p.0) p.1.parent) columns)) ≡ []
      go None later = later
      go (Some parent) later = ap₂ cons_option (no_act child p.0 parent) later

  none_of_tables : (ls : List Layout) → flat_map (λ child. filter_map (work_for stored Enforced 0 tree olds news child) child.references) (map sql_table ls) ≡ []
  none_of_tables [] = refl
  none_of_tables (l ∷ ls) = ap₂ (λ xs ys. xs ++ ys) (none_act (sql_table l) (zip (column_places l) l.columns)) (none_of_tables ls)

pub no_acts : (n : ℕ) → HasNoActs (schema_at n)
no_acts n tree olds news = none_of_tables (schema_at n) tree olds news (layouts_at n)

-- ---- the rows that an update finds

no_permutation : {X : Type 0} (ys : List X) → IsPermutation [] ys → ys ≡ []
no_permutation [] h = refl
no_permutation (y ∷ ys) h = absurd (omega (arith, length_permutation [] (y ∷ ys) h))

module _ (db : Trees) (tree : ℕ) (tests columns : List Term) (params : Row) (own : overlay db [] tree ≡ db tree) where
  abbrev passes : Row → Bool
  passes x = list_all (holds (params ∷ x ∷ [])) tests

  abbrev shown_alone : Row → Output
  shown_alone r = ([], rowid r ∷ rowid r ∷ eval_all columns (params ∷ r ∷ []))

  module _ (rows : List Row) (a : IsAnswer (change_query tree tests columns) (overlay db []) params rows) where
    kept_from : (found : List Row) → filter passes (db tree) ≡ found → a.kept ≡ map (output (change_query tree tests columns)) (map (λ x. params ∷ x ∷ []) found)
    kept_from found is =
        a.distinct ∙ ap (map (output (change_query tree tests columns)))
        (a.grouped ∙ ap (flat_map (λ x. cond (passes x) ((params ∷ x ∷ []) ∷ []) [])) own ∙ kept_for_each passes (λ x. params ∷ x ∷ []) (db tree) ∙ ap (map (λ x. params ∷ x ∷ [])) is)

    shown_from : (ordered : List Output) → a.ordered ≡ ordered → rows ≡ page (change_query tree tests columns) params (map (λ (p : Output). p.1) ordered)
    shown_from ordered is = a.shown ∙ ap (λ os. page (change_query tree tests columns) params (map (λ (p : Output). p.1) os)) is

    pub none_shown : filter passes (db tree) ≡ [] → rows ≡ []
    none_shown none = shown_from [] (no_permutation a.ordered (subst (λ k. IsPermutation k a.ordered) (kept_from [] none) a.same))

    pub one_shown : (r : Row) → filter passes (db tree) ≡ r ∷ [] → rows ≡ (rowid r ∷ rowid r ∷ eval_all columns (params ∷ r ∷ [])) ∷ []
    one_shown r one = shown_from (shown_alone r ∷ []) (one_permutation (shown_alone r) a.ordered (subst (λ k. IsPermutation k a.ordered) (kept_from (r ∷ []) one) a.same))

pub row_found : (db : Trees) (tree slot : ℕ) (columns : List Term) (params : Row) (id : ℤ) (r : Row) → overlay db [] tree ≡ db tree → column params slot ≡ Int id → IsShaped TableTree (db tree)
    → Has (db tree) r → rowid r ≡ Int id → (rows : List Row) → IsAnswer (update_query tree slot columns) (overlay db []) params rows
    → rows ≡ (rowid r ∷ rowid r ∷ eval_all columns (params ∷ r ∷ [])) ∷ []
row_found db tree slot columns params id r own given shaped there is rows a =
    let query = update_query tree slot columns in
    let test = λ (x : Row). list_all (holds (params ∷ x ∷ [])) query.filter in
    let tests : (x : Row) → Has (db tree) x → test x ≡ is_eq (value_cmp (rowid x) (rowid r)) = λ x has.
    let number = int_is (rowid x) (all_has _ (db tree) x shaped.1 has) in
    last_term (ap (λ v. equal Binary (rowid x) v) given
    ∙ ap (λ v. equal Binary v (Int id)) number
    ∙ at_ints false Eq (id_in (rowid x)) id)
    ∙ ap is_eq (sym (value_cmp-Int (id_in (rowid x)) id))
    ∙ ap (λ v. is_eq (value_cmp v (Int id))) (sym number) ∙ ap (λ v. is_eq (value_cmp (rowid x) v)) (sym is) in
    one_shown db tree query.filter columns params own rows a r (only [] (db tree) r id shaped there is test tests)

-- ---- trying one row

-- The row is added, or the row that has the key is updated.
abbrev pub Settles : Schema → Trees → Table → List ℕ → Row → Upsert → Row → Trees → Type 0
Settles stored db table target params clause new next =
    (AreConflicts (Some target) stored.indexes table (db table.tree) new [] × Applies stored Enforced db (edit_of db table [] Given 0 (new ∷ [])) next)
    ⊎ ((there : Row) × (more : List Row) × AreConflicts (Some target) stored.indexes table (db table.tree) new (there ∷ more) × (rows : List Row)
    × IfSome clause.update (λ q. Answers (record { schema = stored; trees = db }) q (params ++ rowid there ∷ shown table new) rows)
    × Applies stored Enforced db (edit_of db table (ids_of rows) Given 1 rows) next)

module _ (stored : Schema) (acts : HasNoActs stored) (task : Task) (keys : task.keys ≡ Enforced) (schema : task.schema ≡ stored) where
  pub applied : (db next : Trees) (edit : Edit) → Writes task.schema task.keys db edit (Ok next) → Applies stored Enforced db edit next
  applied db next edit h =
      let written = subst (λ k. Writes stored k db edit (Ok next)) keys (subst (λ s. Writes s task.keys db edit (Ok next)) schema h) in
      one_step stored Enforced db next edit (acts edit.table.tree (taken_by db edit) edit.news) written

  added_alone : (new : Row) (db : Trees) (one : Written) → PutsNew task new db (Ok one) → Applies stored Enforced db (edit_of db task.table [] Given 0 (new ∷ [])) one.trees
  added_alone new db one h =
      let put = went h in
      let edit = edit_of db task.table [] Given 0 (new ∷ []) in
      subst (Applies stored Enforced db edit) (sym (ap (λ (w : Written). w.trees) (same_value put.2))) (applied db put.0 edit put.1)

  cleared : (new : Row) (db : Trees) (one : Written) (found : List Row) → Clears task Abort new db found (Ok one) → PutsNew task new db (Ok one)
  cleared new db one [] h = h
  cleared new db one (x ∷ found) h = h

  upserted : (target : List ℕ) (slot : ℕ) (columns : List Term) (new : Row) (db : Trees) (one : Written)
      → Upserts task Abort new db (update_at target task.table.tree slot columns ∷ []) (Ok one) → Settles stored db task.table target task.params (update_at target task.table.tree slot columns) new one.trees
  upserted target slot columns new db one ([], conflicts, (found, also, clears)) =
      inl (subst (λ s. AreConflicts (Some target) s.indexes task.table (db task.table.tree) new []) schema conflicts, added_alone new db one (cleared new db one found clears))
  upserted target slot columns new db one (there ∷ more, conflicts, ran) =
      let asked = went ran in
      let put = went asked.2 in
      let edit = edit_of db task.table (ids_of asked.0) Given 1 asked.0 in
      inr (
        there,
        more,
        subst (λ s. AreConflicts (Some target) s.indexes task.table (db task.table.tree) new (there ∷ more)) schema conflicts,
        asked.0,
        subst (λ s. Answers (record { schema = s; trees = db }) (record { lets = []; body = update_query task.table.tree slot columns }) (task.params ++ rowid there ∷ shown task.table new) asked.0) schema asked.1,
        subst (Applies stored Enforced db edit) (sym (ap (λ (w : Written). w.trees) (same_value put.2))) (applied db put.0 edit put.1),
      )

  tried : (clauses : List Upsert) (new : Row) (db : Trees) (one : Written) → Tries task Abort clauses new db (Ok one) → Upserts task Abort new db clauses (Ok one)
  tried clauses new db one (inl refused) = absurd (let e = refused.1 in cc)
  tried clauses new db one (inr (None, judged, ran)) = ran
  tried clauses new db one (inr (Some why, judged, ran)) = absurd (let e = ran in cc)

  pub not_counted : task.table.is_counted ≡ false → (db next : Trees) (counter : Option Row) (top : ℤ) → Counts task db counter top (Ok next) → next ≡ db
  not_counted none db next counter top h =
      same_value (subst (λ b. MatchBool (cond b (is_lt (int_cmp (count_of counter) top)) false) (CountsIn task db counter top (sequence task.schema) (Ok next)) (Gives db (Ok next))) none h)

-- ---- the whole statement

module _ (stored : Schema) (acts : HasNoActs stored) (sql : List ℕ) (params : Row) (old new : State) (known : old.now.schema ≡ stored) (place : ℕ) (table : Table) (terms : List Term) (width : ℕ) (target : List ℕ) (slot : ℕ) (columns : List Term)
    (is : command_of (understood stored sql) ≡ put_command place terms width (update_at target table.tree slot columns)) (plain : IsPlain (understood stored sql))
    (listed : slice_get stored.tables place ≡ Some table) (uncounted : table.is_counted ≡ false)
    (source : Row) (values : value_rows (stamped table params) width (length terms / width) terms ≡ source ∷ []) where
  pub settles : (count : ℕ) → Executes sql params old new (Ok count)
      → (new.now.schema ≡ stored) × IsDatabase new.now × Settles stored old.now.trees table target params (update_at target table.tree slot columns) (with_rowid Chosen (old.now.trees table.tree) (cast_row table source)) new.now.trees
  settles count h =
      let db = old.now.trees in
      let clause = update_at target table.tree slot columns in
      let command = put_command place terms width clause in
      let task : Task = record { limit = old.step_limit; keys = Enforced; schema = stored; table = table; params = params } in
      let w = runs_as sql params old new stored known command is plain count h in
      let text = statement_of sql (understood stored sql) in
      let does = subst (λ s. Does old.step_limit (mode_of old) params (record old.now { schema = s }) text None command (Ok (w.tally, new.now))) known w.changed in
      let done = went (subst (λ o. AtPlace (λ t. OnRows (record { limit = old.step_limit; keys = Enforced; schema = stored; table = t; params = params }) (mode_of old) None command db) o (Ok (w.tally, new.now))) listed does) in
      let now : new.now ≡ record { schema = stored; trees = done.0.trees } = ap (λ (p : Tally × Database). p.1) (same_value (went (went done.2).2).2) in
      let given = went done.1 in
      let counted = went given.2 in
      let each = went counted.2 in
      let ended = went each.2 in
      let rows : given.0 ≡ source ∷ [] = given.1.1 ∙ values in
      let one = went (subst (λ all. TriesEach task Abort (clause ∷ []) all (count_of counted.0) (nothing db) (Ok each.0)) rows each.1) in
      let first = with_rowid Chosen (db table.tree) (cast_row table source) in
      let chosen : with_rowid (rowids_for table (count_of counted.0)) (db table.tree) (cast_row table source) ≡ first =
      ap (λ b. with_rowid (cond b (Above (count_of counted.0)) Chosen) (db table.tree) (cast_row table source)) uncounted in
      let ran = upserted stored acts task refl refl target slot columns first db one.0 (tried stored acts task refl refl (clause ∷ []) first db one.0 (subst (λ n. Tries task Abort (clause ∷ []) n db (Ok one.0)) chosen one.1)) in
      let trees : new.now.trees ≡ one.0.trees =
      ap (λ (d : Database). d.trees) now ∙ ap (λ (it : Written). it.trees) (same_value ended.2) ∙ not_counted stored acts task refl refl uncounted each.0.0.trees ended.0 counted.0 each.0.1 ended.1
      ∙ ap (λ (p : Written × ℤ). p.0.trees) (same_value one.2) in
      (ap (λ (d : Database). d.schema) now, w.sound, subst (Settles stored db table target params clause first) (sym trees) ran)
