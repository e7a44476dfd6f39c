-- What UPDATE of the row at a key does to the tables: that row gets the columns. If there is none, everything is as it was.
use Rattle.std.proofs.Common.{◌≡◌, ◌≢◌, ◌⊎◌, ◌<◌, ℕ, ℤ, Bool, true, false, List, [], ◌∷◌, map, length, slice_get, Some, None, Ok, refl, sym, ap, subst, ◌∙◌, inl, inr, arith}
use Rattle.std.specs.Prelude.{◌==◌, unwrap_or}
use Rattle.std.specs.List.{list_all, range_with_len}
use Rattle.std.proofs.lemmas.Bool.{cases_Bool, eqb-true, both_ways, eq-eqb}
use Rattle.sqlite_value.specs.declared.value.Value.TheVariants.{Null, Int}
use Rattle.sqlite_value.specs.Order.{Row, column}
use Rattle.sqlite_value.specs.Keys.{plain}
use Rattle.sqlite_trees.specs.declared.store.Shape.TheVariants.{Table as TableTree}
use Rattle.sqlite_trees.specs.Tree.{Trees, rowid}
use Rattle.sqlite_trees.specs.View.{IsShaped}
use Rattle.sqlite_sql.specs.Term.{Term, eval_all, holds}
use Rattle.sqlite_sql.specs.Program.{overlay}
use Rattle.sqlite_sql.specs.Query.{Query, IsAnswer}
use Rattle.sqlite_schema.specs.declared.schema.Keys.TheVariants.{Enforced}
use Rattle.sqlite_schema.specs.declared.schema.Schema.{Schema}
use Rattle.sqlite_schema.specs.declared.schema.Table.{Table}
use Rattle.sqlite_schema.specs.Rules.{agree}
use Rattle.sqlite_rules.specs.declared.error.Rowids.TheVariants.{Given}
use Rattle.sqlite_rules.specs.Calls.{ids_of}
use Rattle.sqlite_rules.specs.Edit.{Edit, id_in, edit_of, Applies}
use Rattle.sqlite_rules.specs.Lists.{Has}
use Rattle.sqlite_rules.proofs.KeyLemmas.{agree_back, agree_chain}
use Rattle.sqlite_rules.proofs.ListLemmas.{all_has, all_from}
use Rattle.sqlite_rules.proofs.TableLemmas.{int_is}
use Rattle.sqlite_keyed.proofs.ListLemmas.{filter_none}
use Rattle.sqlite.specs.Effect.{Database, IsDatabase}
use Rattle.sqlite.specs.Does.{Tally, Does, AtPlace, OnRows}
use Rattle.sqlite.specs.Rows.{Task, Written}
use Rattle.sqlite.specs.State.{State, mode_of, Executes}
use Rattle.sqlite.specs.Listing.{understood}
use Rattle.sqlite.proofs.Callers.{IsPlain, command_of, statement_of, runs_as}
use Rattle.table_meaning.specs.declared.tables.TableName.{TableName}
use Rattle.table_meaning.specs.Schema.{newest, stored_schema, table_by, table_place}
use Rattle.table_meaning.specs.Texts.{update_text}
use Rattle.table_meaning.specs.Rows.{tree_of, key_places}
use Rattle.table_meaning.specs.ByKey.{key_tests}
use Rattle.table_meaning.specs.Holding.{AreApart}
use Rattle.table_meaning.specs.Upserts.{keyed_query, update_command}
use Rattle.table_meaning.proofs.Columns.{key_by, count_of, written_out, columns_after_number, given_terms, key_shown}
use Rattle.table_meaning.proofs.EachTable.{of_each}
use Rattle.table_meaning.proofs.PutRows.{agree_from, only_passing}
use Rattle.table_meaning.proofs.Putting.{behind, IsNumbered, PutsColumns, Facts, over_one}
use Rattle.table_meaning.proofs.Reading.{tests_key}
use Rattle.table_meaning.proofs.RowsHeld.{found}
use Rattle.table_meaning.proofs.Statements.{HasNoActs, no_acts, went, same_value, applied, none_shown, one_shown}
use Rattle.table_meaning.proofs.UpdateTexts.{ChangesRow}

-- the rows that a query shows, as an edit of a table
abbrev pub change_of : Trees → Table → List Row → Edit
change_of db table rows = edit_of db table (ids_of rows) Given 1 rows

module _ (stored : Schema) (acts : HasNoActs stored) (sql : List ℕ) (params : Row) (old new : State) (known : old.now.schema ≡ stored) (place : ℕ) (table : Table) (q : Query) (is : command_of (understood stored sql) ≡ update_command place q)
    (plain_text : IsPlain (understood stored sql)) (listed : slice_get stored.tables place ≡ Some table) where
  -- it changes the rows that its query shows, and returns how many
  pub updates : (count : ℕ) → Executes sql params old new (Ok count) → (new.now.schema ≡ stored) × IsDatabase new.now × (rows : List Row) × IsAnswer q (overlay old.now.trees []) params rows
      × (count ≡ length (change_of old.now.trees table rows).news) × Applies stored Enforced old.now.trees (change_of old.now.trees table rows) new.now.trees
  updates count h =
      let db = old.now.trees in
      let command = update_command place q in
      let task : Task = record { limit = old.step_limit; keys = Enforced; schema = stored; table = table; params = params } in
      let w = runs_as sql params old new stored known command is plain_text count h in
      let text = statement_of sql (understood stored sql) in
      let does = subst (λ s. Does old.step_limit (mode_of old) params (record old.now { schema = s }) text None command (Ok (w.tally, new.now))) known w.changed in
      let done = went (subst (λ o. AtPlace (λ t. OnRows (record { limit = old.step_limit; keys = Enforced; schema = stored; table = t; params = params }) (mode_of old) None command db) o (Ok (w.tally, new.now))) listed does) in
      let told = same_value (went (went done.2).2).2 in
      let asked = went done.1 in
      let put = went asked.2 in
      let rows = asked.0 in
      let edit = change_of db table rows in
      let one : done.0 ≡ record { trees = put.0; rows = edit.news; last = None } = same_value put.2 in
      let trees : new.now.trees ≡ put.0 = ap (λ (p : Tally × Database). p.1.trees) told ∙ ap (λ (it : Written). it.trees) one in
      let counted : count ≡ length edit.news = w.counted ∙ ap (λ (p : Tally × Database). unwrap_or p.0.rows 0) told ∙ ap (λ (it : Written). length it.rows) one in
      (ap (λ (p : Tally × Database). p.1.schema) told, w.sound, rows, asked.1.answer Null, counted, subst (Applies stored Enforced db edit) (sym trees) (applied stored acts task refl refl db put.0 edit put.1))

-- ---- a row at its key

-- no row has the key of the columns and everything is as it was, or the row at it has the columns
abbrev pub Updated : TableName → Row → Trees → Trees → ℕ → Type 0
Updated t c db next count = ((count ≡ 0) × ((name : TableName) → next (tree_of name) ≡ db (tree_of name))) ⊎ ((0 < count) × PutsColumns newest t c db next)

module _ (t : TableName) (c : Row) (f : Facts newest t c) (it : ChangesRow t) (whole : written_out t c ≡ c) (old new : State) (schema : old.now.schema ≡ stored_schema) (shaped : IsShaped TableTree (old.now.trees (tree_of t)))
    (alone : AreApart (key_places t) (old.now.trees (tree_of t))) where
  abbrev db : Trees
  db = old.now.trees

  abbrev rows : List Row
  rows = db (tree_of t)

  abbrev places : List ℕ
  places = key_places t

  abbrev columns : List Term
  columns = given_terms (key_by t) (count_of t)

  abbrev passes : Row → Bool
  passes x = list_all (holds (c ∷ x ∷ [])) (key_tests 0 places)

  -- a row that passes has the key of the columns
  agrees : (first : ℤ) → IsNumbered t c first → (x : Row) → passes x ≡ true → agree plain places x places (Int first ∷ behind t c) ≡ true
  agrees first is_first x h =
      let slots = range_with_len 0 (length places) in
      let row = Int first ∷ behind t c in
      let key : map (column c) slots ≡ map (column row) places =
      subst (λ r. map (column r) slots ≡ map (column row) places) whole (it.key_is c ∙ sym (key_shown t row (written_out t c) (f.shows first is_first ∙ sym whole))) in
      agree_back plain places places row x (sym (agree_from plain slots places places c row x key) ∙ agree_back plain places slots x c (sym (tests_key places 0 c x) ∙ h))

  -- no row passes
  left : (next : Trees) (count : ℕ) (asked : List Row) → asked ≡ [] → count ≡ length (change_of db (table_by t) asked).news → Applies stored_schema Enforced db (change_of db (table_by t) asked) next → Updated t c db next count
  left next count asked none counted applies =
      let applied = subst (λ all. Applies stored_schema Enforced db (change_of db (table_by t) all) next) none applies in
      inl (
        counted ∙ ap (λ all. length (change_of db (table_by t) all).news) none,
        λ name. elim (cases_Bool (tree_of name == tree_of t)) [
          | inl same ↦ subst (λ tree. next tree ≡ db tree) (sym (eqb-true _ _ same)) applied.rows
          | inr other ↦ of_each (λ s. s.tree ≢ tree_of t → next s.tree ≡ db s.tree) applied.tables name (λ same. both_ways _ other (eq-eqb _ _ same))
        ],
      )

  -- one row passes, and no other has its key
  stood : (next : Trees) (count : ℕ) (asked : List Row) → IsAnswer (keyed_query (tree_of t) places columns) (overlay db []) c asked → count ≡ length (change_of db (table_by t) asked).news
      → Applies stored_schema Enforced db (change_of db (table_by t) asked) next → (r : Row) → Has rows r → passes r ≡ true → Updated t c db next count
  stood next count asked answer counted applies r there h =
      let first = f.begins rows in
      let agreeing = agrees first.0 first.1 in
      let row = Int first.0 ∷ behind t c in
      let single = λ (x : Row) (has : Has rows x) (too : passes x ≡ true). alone x r has there (agree_chain plain places places places x row r (agreeing x too) (agree_back plain places places r row (agreeing r h))) in
      let one = only_passing places rows r (id_in (rowid r)) shaped there (int_is (rowid r) (all_has _ rows r shaped.1 there)) passes h single in
      let columns_are : eval_all columns (c ∷ r ∷ []) ≡ behind t c = subst (λ w. eval_all columns (w ∷ r ∷ []) ≡ columns_after_number (key_by t) w) whole (it.columns_are c r) in
      let line = one_shown db (tree_of t) (key_tests 0 places) columns c (f.own db) asked answer r one ∙ ap (λ m. (rowid r ∷ rowid r ∷ m) ∷ []) columns_are in
      let some : count ≡ 1 = counted ∙ ap (λ all. length (change_of db (table_by t) all).news) line in
      inr (omega (arith, some), over_one newest t c f db shaped alone next first.0 first.1 r there (agreeing r h) asked line applies)

  pub updated : (count : ℕ) → Executes (update_text t) c old new (Ok count) → (new.now.schema ≡ stored_schema) × IsDatabase new.now × Updated t c db new.now.trees count
  updated count h =
      let ran = updates stored_schema (no_acts newest) (update_text t) c old new schema (table_place t) (table_by t) (keyed_query (tree_of t) places columns) it.is it.plain_text f.at.listed count h in (
        ran.0,
        ran.1,
        elim (found passes rows) [
          | inl none ↦ left new.now.trees count ran.2
              (none_shown db (tree_of t) (key_tests 0 places) columns c (f.own db) ran.2 ran.3 (filter_none passes rows (all_from (λ x. passes x ≡ false) rows none.1))) ran.4 ran.5
          | inr one ↦ stood new.now.trees count ran.2 ran.3 ran.4 ran.5 one.0 one.2 one.3
        ],
      )
