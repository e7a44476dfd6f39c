-- What INSERT .. SELECT does: it puts the rows that its query shows. If the query shows one row and the table takes it as it is, that row is put.
use Rattle.std.proofs.Common.{◌≡◌, ℕ, ℤ, false, cond, List, [], ◌∷◌, slice_get, Some, None, Ok, refl, sym, ap, subst, ◌∙◌}
use Rattle.std.proofs.lemmas.Bool.{and_parts, not-true}
use Rattle.sqlite_value.specs.declared.value.Value.TheVariants.{Null, Int}
use Rattle.sqlite_value.specs.Order.{Row}
use Rattle.sqlite_value.specs.Keys.{plain}
use Rattle.sqlite_trees.specs.declared.store.Shape.TheVariants.{Table as TableTree}
use Rattle.sqlite_trees.specs.Tree.{Trees, put_row}
use Rattle.sqlite_trees.specs.View.{IsShaped}
use Rattle.sqlite_sql.specs.Program.{overlay}
use Rattle.sqlite_sql.specs.Query.{Query, IsAnswer}
use Rattle.sqlite_schema.specs.declared.command.Command.{Command}
use Rattle.sqlite_schema.specs.declared.command.Command.TheVariants.{Insert}
use Rattle.sqlite_schema.specs.declared.command.Source.TheVariants as source
use Rattle.sqlite_schema.specs.declared.schema.Keys.TheVariants.{Enforced}
use Rattle.sqlite_schema.specs.declared.schema.Schema.{Schema}
use Rattle.sqlite_schema.specs.declared.schema.Table.{Table}
use Rattle.sqlite_schema.specs.Rules.{agree}
use Rattle.sqlite_rules.specs.declared.error.Rowids.TheVariants.{Chosen, Above}
use Rattle.sqlite_rules.specs.Edit.{Edit, is_taken, edit_of, Applies}
use Rattle.sqlite_rules.specs.Lists.{Has}
use Rattle.sqlite.specs.Effect.{Database, IsDatabase, Answers}
use Rattle.sqlite.specs.Does.{Tally, Does, AtPlace, OnRows}
use Rattle.sqlite.specs.Rows.{Task, Written, count_of, stamped}
use Rattle.sqlite.specs.State.{State, mode_of, Executes}
use Rattle.sqlite.specs.Listing.{understood}
use Rattle.sqlite.proofs.Callers.{IsPlain, command_of, statement_of, runs_as}
use Rattle.table_meaning.specs.declared.tables.TableName.{TableName}
use Rattle.table_meaning.specs.Schema.{newest, schema_at, table_by}
use Rattle.table_meaning.specs.Rows.{tree_of, key_places}
use Rattle.table_meaning.proofs.Columns.{key_by, source_by}
use Rattle.table_meaning.proofs.PutRows.{Puts, added}
use Rattle.table_meaning.proofs.Putting.{behind, IsNumbered, PutsColumns, Facts}
use Rattle.table_meaning.proofs.Statements.{HasNoActs, went, same_value, applied, not_counted}

-- puts what a query shows into the table at a place
abbrev pub copy_command : ℕ → Query → Command
copy_command place q = Insert place (source.Query (record { lets = []; body = q }))

module _ (stored : Schema) (acts : HasNoActs stored) (sql : List ℕ) (params : Row) (old new : State) (known : old.now.schema ≡ stored) (place : ℕ) (table : Table) (q : Query) (is : command_of (understood stored sql) ≡ copy_command place q)
    (plain : IsPlain (understood stored sql)) (listed : slice_get stored.tables place ≡ Some table) (uncounted : table.is_counted ≡ false) (unstamped : stamped table params ≡ params) where
  pub inserts : (count : ℕ) → Executes sql params old new (Ok count) → (new.now.schema ≡ stored) × IsDatabase new.now × (rows : List Row) × IsAnswer q (overlay old.now.trees []) params rows
      × Applies stored Enforced old.now.trees (edit_of old.now.trees table [] Chosen 0 rows) new.now.trees
  inserts count h =
      let db = old.now.trees in
      let command = copy_command place q in
      let task : Task = record { limit = old.step_limit; keys = Enforced; schema = stored; table = table; params = params } in
      let w = runs_as sql params old new stored known command is plain count h in
      let text = statement_of sql (understood stored sql) in
      let does = subst (λ s. Does old.step_limit (mode_of old) params (record old.now { schema = s }) text None command (Ok (w.tally, new.now))) known w.changed in
      let done = went (subst (λ o. AtPlace (λ t. OnRows (record { limit = old.step_limit; keys = Enforced; schema = stored; table = t; params = params }) (mode_of old) None command db) o (Ok (w.tally, new.now))) listed does) in
      let now : new.now ≡ record { schema = stored; trees = done.0.trees } = ap (λ (p : Tally × Database). p.1) (same_value (went (went done.2).2).2) in
      let given = went done.1 in
      let counted = went given.2 in
      let edited = went counted.2 in
      let ended = went edited.2 in
      let rows = given.0 in
      let answers = subst (λ ps. Answers (record { schema = stored; trees = db }) (record { lets = []; body = q }) ps rows) unstamped given.1 in
      let edit : Edit = edit_of db table [] (cond table.is_counted (Above (count_of counted.0)) Chosen) 0 rows in
      let ran = subst (λ b. Applies stored Enforced db (edit_of db table [] (cond b (Above (count_of counted.0)) Chosen) 0 rows) edited.0) uncounted (applied stored acts task refl refl db edited.0 edit edited.1) in
      let trees : new.now.trees ≡ edited.0 =
      ap (λ (d : Database). d.trees) now ∙ ap (λ (it : Written). it.trees) (same_value ended.2) ∙ not_counted stored acts task refl refl uncounted edited.0 ended.0 counted.0 _ ended.1 in
      (ap (λ (d : Database). d.schema) now, w.sound, rows, answers.answer Null, subst (Applies stored Enforced db (edit_of db table [] Chosen 0 rows)) (sym trees) ran)

-- ---- one row

module _ (n : ℕ) (t : TableName) (c : Row) (f : Facts newest t c) (old : Trees) (shaped : IsShaped TableTree (old (tree_of t))) (next : Trees) where
  abbrev rows : List Row
  rows = old (tree_of t)

  pub one_inserted : Applies (schema_at n) Enforced old (edit_of old (table_by t) [] Chosen 0 (source_by (key_by t) c ∷ [])) next
      → ((id : ℤ) → IsNumbered t c id → (x : Row) → Has rows x → agree plain (key_places t) x (key_places t) (Int id ∷ behind t c) ≡ false) → PutsColumns n t c old next
  one_inserted applies none =
      let first = f.begins rows in
      let id = first.0 in
      let row = Int id ∷ behind t c in
      let free = not-true _ (and_parts _ _ applies.fresh).0 in
      let put = added (key_places t) rows row shaped refl (subst (λ m. is_taken rows m ≡ false) first.2 free) (none id first.1) in
      (id, first.1, subst (λ ys. Puts (key_places t) rows ys row) (sym (applies.rows ∙ ap (λ m. put_row m rows) first.2)) put, applies.tables)
