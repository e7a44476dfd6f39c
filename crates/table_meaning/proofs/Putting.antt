-- What each table's text does to the tables: the row is at its key, and every other key has the row that it had.
use Rattle.std.proofs.Common.{◌≡◌, ◌≢◌, ℕ, ◌+◌, ◌/◌, ℤ, true, false, List, [], ◌∷◌, ◌++◌, length, slice_get, Some, Ok, refl, sym, ap, subst, ◌∙◌, inl, inr}
use Rattle.std.specs.List.{AllByRecursion}
use Rattle.std.proofs.lemmas.Bool.{and_parts, not-true, false_from_ne_true}
use Rattle.sqlite_value.specs.declared.value.Value.{Value}
use Rattle.sqlite_value.specs.declared.value.Value.TheVariants.{Null, Int}
use Rattle.sqlite_value.specs.Order.{Row, column}
use Rattle.sqlite_value.specs.Keys.{plain}
use Rattle.sqlite_trees.specs.declared.store.Shape.TheVariants.{Table as TableTree}
use Rattle.sqlite_trees.specs.Tree.{Trees, rowid, put_row, without_rowid}
use Rattle.sqlite_trees.specs.View.{IsShaped}
use Rattle.sqlite_sql.specs.Term.{Term, eval_all}
use Rattle.sqlite_sql.specs.Program.{overlay}
use Rattle.sqlite_schema.specs.declared.command.Upsert.{Upsert}
use Rattle.sqlite_schema.specs.declared.schema.Keys.TheVariants.{Enforced}
use Rattle.sqlite_schema.specs.Rules.{agree}
use Rattle.sqlite_rules.specs.declared.error.Rowids.TheVariants.{Chosen, Given}
use Rattle.sqlite_rules.specs.Calls.{ids_of}
use Rattle.sqlite_rules.specs.Cast.{cast_row}
use Rattle.sqlite_rules.specs.Keys.{conflicts}
use Rattle.sqlite_rules.specs.Edit.{id_in, is_taken, edit_of, with_rowid, Applies}
use Rattle.sqlite_rules.specs.Lists.{Has}
use Rattle.sqlite_rules.proofs.KeyLemmas.{agree_back, agree_chain}
use Rattle.sqlite_rules.proofs.ListLemmas.{all_has}
use Rattle.sqlite_rules.proofs.TableLemmas.{int_is}
use Rattle.sqlite.specs.Effect.{IsDatabase, value_rows}
use Rattle.sqlite.specs.Rows.{stamped, shown as shown_by}
use Rattle.sqlite.specs.State.{State, Executes}
use Rattle.sqlite.specs.Listing.{understood}
use Rattle.sqlite.proofs.Callers.{IsPlain, command_of}
use Rattle.table_meaning.specs.declared.tables.TableName.{TableName}
use Rattle.table_meaning.specs.Schema.{schema_at, table_by, table_place}
use Rattle.table_meaning.specs.Texts.{put_text}
use Rattle.table_meaning.specs.Rows.{tree_of, key_places, shown}
use Rattle.table_meaning.specs.Holding.{AreApart}
use Rattle.table_meaning.specs.Schemas.{IsSchema}
use Rattle.table_meaning.specs.Upserts.{update_at, put_command}
use Rattle.table_meaning.proofs.Columns.{key_by, count_of, written_out, columns_after_number, IsNumberedBy, source_by, put_terms, set_terms}
use Rattle.table_meaning.proofs.PutRows.{Puts, added, replaced}
use Rattle.table_meaning.proofs.Statements.{no_acts, Settles, settles, row_found}

-- for the columns of a row in a table
module _ (t : TableName) (c : Row) where
  -- what a row of the tree has after its number
  abbrev pub behind : Row
  behind = columns_after_number (key_by t) c

  abbrev pub IsNumbered : ℤ → Type 0
  IsNumbered = IsNumberedBy (key_by t) c

-- What is computed with the text that puts a row at the schema of a number.
pub record PutsAt (n : ℕ) (t : TableName) : Type 0 where
  pub is : command_of (understood (schema_at n) (put_text t)) ≡ put_command (table_place t) (put_terms (key_by t) (count_of t)) (count_of t + 1) (update_at (key_places t) (tree_of t) (count_of t) (set_terms (key_by t) (count_of t)))
  pub plain_text : IsPlain (understood (schema_at n) (put_text t))
  pub listed : slice_get (schema_at n).tables (table_place t) ≡ Some (table_by t)
  pub meets : (c : Row) (id : ℤ) (x : Row) → conflicts (Some (key_places t)) (schema_at n).indexes (table_by t) (Int id ∷ columns_after_number (key_by t) (written_out t c)) x
      ≡ agree plain (key_places t) x (key_places t) (Int id ∷ columns_after_number (key_by t) (written_out t c))

module _ (n : ℕ) (t : TableName) (c : Row) where
  -- The tree has the columns under some number, and lost only the row that had the key. The other trees are as before.
  abbrev pub PutsColumns : Trees → Trees → Type 0
  PutsColumns db next = (id : ℤ) × IsNumbered t c id × Puts (key_places t) (db (tree_of t)) (next (tree_of t)) (Int id ∷ behind t c) × AllByRecursion (λ s. s.tree ≢ tree_of t → next s.tree ≡ db s.tree) (schema_at n).tables

  -- and what is known about the columns
  pub record Facts : Type 0 where
    pub at : PutsAt n t
    pub own : (db : Trees) → overlay db [] (tree_of t) ≡ db (tree_of t)
    pub values : value_rows (stamped (table_by t) c) (count_of t + 1) (length (put_terms (key_by t) (count_of t)) / (count_of t + 1)) (put_terms (key_by t) (count_of t)) ≡ source_by (key_by t) c ∷ []
    pub begins : (xs : List Row) → (id : ℤ) × IsNumbered t c id × (with_rowid Chosen xs (cast_row (table_by t) (source_by (key_by t) c)) ≡ Int id ∷ behind t c)
    pub meets : (id : ℤ) (x : Row) → conflicts (Some (key_places t)) (schema_at n).indexes (table_by t) (Int id ∷ behind t c) x ≡ agree plain (key_places t) x (key_places t) (Int id ∷ behind t c)
    pub fixed : (id : ℤ) → cast_row (table_by t) (Int id ∷ behind t c) ≡ Int id ∷ behind t c
    pub slot_is : (v : Value) (rest : Row) → column (c ++ v ∷ rest) (count_of t) ≡ v
    pub columns_are : (id : ℤ) (r : Row) (v : Value) → eval_all (set_terms (key_by t) (count_of t)) ((c ++ v ∷ shown_by (table_by t) (Int id ∷ behind t c)) ∷ r ∷ []) ≡ behind t c
    pub keys : (r : Row) (id other : ℤ) → rowid r ≡ Int id → IsNumbered t c other → agree plain (key_places t) r (key_places t) (Int other ∷ behind t c) ≡ true
        → IsNumbered t c id × (agree plain (key_places t) (Int id ∷ behind t c) (key_places t) (Int other ∷ behind t c) ≡ true)
    pub shows : (id : ℤ) → IsNumbered t c id → shown t (Int id ∷ behind t c) ≡ c

-- ---- from the facts to the tree

-- a row has the key, and the columns replace its own
module _ (n : ℕ) (t : TableName) (c : Row) (f : Facts n t c) (db : Trees) (shaped : IsShaped TableTree (db (tree_of t))) (alone : AreApart (key_places t) (db (tree_of t))) where
  pub over_one : (next : Trees) (first : ℤ) → IsNumbered t c first → (r : Row) → Has (db (tree_of t)) r → agree plain (key_places t) r (key_places t) (Int first ∷ behind t c) ≡ true
      → (asked : List Row) → asked ≡ (rowid r ∷ rowid r ∷ behind t c) ∷ [] → Applies (schema_at n) Enforced db (edit_of db (table_by t) (ids_of asked) Given 1 asked) next → PutsColumns n t c db next
  over_one next first is_first r there agrees asked line applies =
      let rows = db (tree_of t) in
      let id = id_in (rowid r) in
      let is : rowid r ≡ Int id = int_is (rowid r) (all_has _ rows r shaped.1 there) in
      let keyed = f.keys r id first is is_first agrees in
      let over = Int id ∷ behind t c in
      let lines : asked ≡ (Int id ∷ over) ∷ [] = line ∙ (λ i. (is i ∷ is i ∷ behind t c) ∷ []) in
      let edit = λ (all : List Row). edit_of db (table_by t) (ids_of all) Given 1 all in
      let applied = subst (λ all. Applies (schema_at n) Enforced db (edit all) next) lines applies in
      let news : cast_row (table_by t) over ≡ over = f.fixed id in
      let free = not-true _ (and_parts _ _ applied.fresh).0 in
      let left = without_rowid id rows in
      let same = agree_chain plain (key_places t) (key_places t) (key_places t) r (Int first ∷ behind t c) over agrees (agree_back plain (key_places t) (key_places t) over (Int first ∷ behind t c) keyed.1) in
      let put = replaced (key_places t) rows r id shaped there is over refl (subst (λ m. is_taken left m ≡ false) news free) alone same in
      (id, keyed.0, subst (λ ys. Puts (key_places t) rows ys over) (sym (applied.rows ∙ ap (λ m. put_row m left) news)) put, applied.tables)

module _ (n : ℕ) (stands : IsSchema n) (t : TableName) (c : Row) (f : Facts n t c) (old new : State) (schema : old.now.schema ≡ schema_at n) (shaped : IsShaped TableTree (old.now.trees (tree_of t)))
    (alone : AreApart (key_places t) (old.now.trees (tree_of t))) where
  abbrev db : Trees
  db = old.now.trees

  abbrev rows : List Row
  rows = db (tree_of t)

  abbrev columns : List Term
  columns = set_terms (key_by t) (count_of t)

  abbrev clause : Upsert
  clause = update_at (key_places t) (tree_of t) (count_of t) columns

  -- a row of the tree with these columns
  abbrev numbered_as : ℤ → Row
  numbered_as id = Int id ∷ behind t c

  -- no row had the key, or one had it
  ends : (next : Trees) (first : ℤ) → IsNumbered t c first → Settles (schema_at n) db (table_by t) (key_places t) c clause (numbered_as first) next → PutsColumns n t c db next
  ends next first is_first (inl went) =
      let row = numbered_as first in
      let applies = went.1 in
      let news : cast_row (table_by t) row ≡ row = f.fixed first in
      let free = not-true _ (and_parts _ _ applies.fresh).0 in
      let none = λ (x : Row) (has : Has rows x). false_from_ne_true _ (λ same. absurd (went.0.complete x has (f.meets first x ∙ same))) in
      let put = added (key_places t) rows row shaped refl (subst (λ m. is_taken rows m ≡ false) news free) none in
      (first, is_first, subst (λ ys. Puts (key_places t) rows ys row) (sym (applies.rows ∙ ap (λ m. put_row m rows) news)) put, applies.tables)
  ends next first is_first (inr (there, more, found, asked, answers, applies)) =
      let row = numbered_as first in
      let met = found.sound there (inl refl) in
      let r = met.0 in
      let is : rowid r ≡ Int (id_in (rowid r)) = int_is (rowid r) (all_has _ rows r shaped.1 met.1) in
      let given = c ++ rowid there ∷ shown_by (table_by t) row in
      let number : rowid there ≡ Int (id_in (rowid r)) = ap rowid met.3 ∙ is in
      let line = row_found db (tree_of t) (count_of t) columns given (id_in (rowid r)) r (f.own db) (f.slot_is (rowid there) (shown_by (table_by t) row) ∙ number) shaped met.1 is asked (answers.answer Null) in
      over_one n t c f db shaped alone next first is_first r met.1 (sym (f.meets first r) ∙ met.2) asked (line ∙ (λ i. (rowid r ∷ rowid r ∷ f.columns_are first r (rowid there) i) ∷ [])) applies

  pub puts : (count : ℕ) → Executes (put_text t) c old new (Ok count) → (new.now.schema ≡ schema_at n) × IsDatabase new.now × PutsColumns n t c db new.now.trees
  puts count h =
      let first = f.begins rows in
      let ran = settles (schema_at n) (no_acts n) (put_text t) c old new schema (table_place t) (table_by t) (put_terms (key_by t) (count_of t)) (count_of t + 1) (key_places t) (count_of t) columns f.at.is f.at.plain_text f.at.listed refl
      (source_by (key_by t) c) f.values count h in
      (ran.0, ran.1, ends new.now.trees first.0 first.1 (subst (λ m. Settles (schema_at n) db (table_by t) (key_places t) c clause m new.now.trees) first.2 ran.2))
