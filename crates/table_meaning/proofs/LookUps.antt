-- From one tree to all tables: what each look-up finds after a put.
use Rattle.std.proofs.Common.{◌≡◌, ◌≢◌, ◌⊎◌, ℕ, ℤ, Bool, true, false, cond, List, ◌∷◌, find, Option, Some, None, option_map, refl, sym, ap, subst, ◌∙◌, inl, inr}
use Rattle.std.specs.Prelude.{◌==◌}
use Rattle.std.proofs.lemmas.Bool.{cases_Bool, eqb-true, both_ways, eq-eqb}
use Rattle.sqlite_value.specs.declared.value.Value.TheVariants.{Int}
use Rattle.sqlite_value.specs.Order.{Row}
use Rattle.sqlite_value.specs.Keys.{plain}
use Rattle.sqlite_trees.specs.declared.store.Shape.TheVariants.{Table as TableTree}
use Rattle.sqlite_trees.specs.Tree.{Trees}
use Rattle.sqlite_trees.specs.View.{IsShaped}
use Rattle.sqlite_schema.specs.Rules.{agree}
use Rattle.sqlite.specs.Effect.{Database, IsDatabase}
use Rattle.table_meaning.specs.declared.tables.TableName.{TableName}
use Rattle.table_meaning.specs.declared.rows.StoredRow.{StoredRow}
use Rattle.table_meaning.specs.Schema.{newest, schema_at, stored_schema}
use Rattle.table_meaning.specs.Schemas.{has_tree, has_table, HoldAt}
use Rattle.table_meaning.specs.Rows.{tree_of, key_places, shown, table_of, columns_of, RowKey, table_at, key_columns, row_key_of, slots_of, has_key, same_row_key, look_up}
use Rattle.table_meaning.specs.Steps.{AreNew}
use Rattle.table_meaning.specs.Holding.{AreApart, AreKnown, Contents, HaveKeys, Hold, with_row}
use Rattle.table_meaning.proofs.PutRows.{agree_from, find_puts, puts_shaped, puts_apart, puts_from}
use Rattle.table_meaning.proofs.RowsHeld.{has_own_key}
use Rattle.table_meaning.proofs.Putting.{behind, IsNumbered, PutsColumns}
use Rattle.table_meaning.proofs.PutFacts.{facts}
use Rattle.table_meaning.proofs.EachTable.{same_table}
use Rattle.table_meaning.proofs.SchemaTables.{at_tree, each_tree, newest_has}
use Rattle.table_meaning.proofs.EachRow.{typed}
use Rattle.table_meaning.proofs.TypedRows.{row_key_shown}

-- ---- a row put, and everything after it

module _ (n : ℕ) (row : StoredRow) (old new : Trees) (ran : PutsColumns n (table_of row) (columns_of row) old new) where
  abbrev t : TableName
  t = table_of row

  abbrev look : TableName → List ℕ → Row → Trees → Option Row
  look name slots key trees = option_map (shown name) (find (λ r. agree plain (key_places name) r slots key) (trees (tree_of name)))

  shows : (id : ℤ) → IsNumbered t (columns_of row) id → shown t (Int id ∷ behind t (columns_of row)) ≡ columns_of row
  shows = (facts t (columns_of row) (typed row)).shows

  abbrev raw : Row
  raw = Int ran.0 ∷ behind t (columns_of row)

  others : (tree : ℕ) → has_tree n tree ≡ true → tree ≢ tree_of t → new tree ≡ old tree
  others = at_tree n (λ tree. tree ≢ tree_of t → new tree ≡ old tree) ran.3

  tells : (a b : ℕ) → (a ≡ b) ⊎ (a ≢ b)
  tells a b = elim (cases_Bool (a == b)) [ inl same ↦ inl (eqb-true a b same) | inr other ↦ inr (λ same. both_ways _ other (eq-eqb a b same)) ]

  -- the numbers of the rows of each tree still rise, and no key comes twice
  put_ordered : (tree : ℕ) → has_tree n tree ≡ true → IsShaped TableTree (old tree) → IsShaped TableTree (new tree)
  put_ordered tree has was = elim (tells tree (tree_of t)) [
    | inl same ↦ subst (λ at. IsShaped TableTree (new at)) (sym same) (puts_shaped _ _ _ raw ran.2)
    | inr other ↦ subst (IsShaped TableTree) (sym (others tree has other)) was
  ]

  put_apart : (name : TableName) → has_table n name ≡ true → AreApart (key_places name) (old (tree_of name)) → AreApart (key_places name) (new (tree_of name))
  put_apart name has was = elim (tells (tree_of name) (tree_of t)) [
    | inl same ↦
        let is = same_table name t same in
        subst (λ m. AreApart (key_places m) (new (tree_of m))) (sym is) (puts_apart _ _ _ raw ran.2 (subst (λ m. AreApart (key_places m) (old (tree_of m))) is was))
    | inr other ↦ subst (AreApart (key_places name)) (sym (others (tree_of name) has other)) was
  ]

  -- each row has a key, and the new row has its own
  put_keyed : (name : TableName) → has_table n name ≡ true → HaveKeys name (old (tree_of name)) → HaveKeys name (new (tree_of name))
  put_keyed name has was = elim (tells (tree_of name) (tree_of t)) [
    | inl same ↦
        let is = same_table name t same in
        subst (λ m. HaveKeys m (new (tree_of m))) (sym is) (λ x there. elim (puts_from (key_places t) _ _ raw ran.2 x there) [
          | inl here ↦ (row_key_of row, refl, ap (has_key (row_key_of row)) here ∙ has_own_key row raw (shows ran.0 ran.1))
          | inr before ↦ subst (λ m. HaveKeys m (old (tree_of m))) is was x before
        ])
    | inr other ↦ subst (HaveKeys name) (sym (others (tree_of name) has other)) was
  ]

  put_looks : (key : RowKey) → has_table n (table_at key) ≡ true → look_up new key ≡ cond (same_row_key key (row_key_of row)) (Some (columns_of row)) (look_up old key)
  put_looks key has = elim (cases_Bool (tree_of (table_at key) == tree_of t)) [
    | inl same ↦ rw same (subst (λ m. look m (slots_of key) (key_columns key) new
        ≡ cond (agree plain (slots_of (row_key_of row)) (key_columns (row_key_of row)) (slots_of key) (key_columns key)) (Some (columns_of row)) (look m (slots_of key) (key_columns key) old))
        (sym (same_table (table_at key) t (eqb-true _ _ same))) (here (slots_of key) (key_columns key)))
    | inr other ↦ rw other (ap (λ rows. option_map (shown (table_at key)) (find (has_key key) rows)) (others (tree_of (table_at key)) has (λ same. both_ways _ other (eq-eqb _ _ same))))
  ]
    where
      here : (slots : List ℕ) (key : Row) → look t slots key new ≡ cond (agree plain (slots_of (row_key_of row)) (key_columns (row_key_of row)) slots key) (Some (columns_of row)) (look t slots key old)
      here slots key =
          ap (option_map (shown t)) (find_puts (key_places t) _ _ raw ran.2 slots key) ∙ turn (agree plain (key_places t) raw slots key)
          ∙ ap (λ b. cond b (Some (columns_of row)) (look t slots key old)) (agree_from plain (key_places t) (slots_of (row_key_of row)) slots raw (key_columns (row_key_of row)) key (row_key_shown row raw (shows ran.0 ran.1)))
        where
          turn : (b : Bool) → option_map (shown t) (cond b (Some raw) (find (λ r. agree plain (key_places t) r slots key) (old (tree_of t)))) ≡ cond b (Some (columns_of row)) (look t slots key old)
          turn true = ap Some (shows ran.0 ran.1)
          turn false = refl

  put_rows : (key : RowKey) (contents : Contents) → has_table n (table_at key) ≡ true → look_up old key ≡ option_map columns_of (contents key) → look_up new key ≡ option_map columns_of (with_row contents row key)
  put_rows key contents has was = put_looks key has ∙ ap (λ o. cond (same_row_key key (row_key_of row)) (Some (columns_of row)) o) was ∙ turn (same_row_key key (row_key_of row)) (contents key)
    where
      turn : (b : Bool) (o : Option StoredRow) → cond b (Some (columns_of row)) (option_map columns_of o) ≡ option_map columns_of (cond b (Some row) o)
      turn true o = refl
      turn false o = refl

-- a row put into tables of the schema of a number
pub hold_put_at : (n : ℕ) (row : StoredRow) (old new : Database) → new.schema ≡ schema_at n → IsDatabase new → PutsColumns n (table_of row) (columns_of row) old.trees new.trees → (contents : Contents) → HoldAt n old contents
    → HoldAt n new (with_row contents row)
hold_put_at n row old new schema sound ran contents holds = record {
  known = record {
    schema = schema;
    sound = sound;
    ordered = each_tree n (λ tree. IsShaped TableTree (new.trees tree)) (λ tree has. put_ordered n row old.trees new.trees ran tree has (at_tree n (λ tree. IsShaped TableTree (old.trees tree)) holds.known.ordered tree has));
    apart = λ name has. put_apart n row old.trees new.trees ran name has (holds.known.apart name has);
  };
  rows = λ key has. put_rows n row old.trees new.trees ran key contents has (holds.rows key has);
  keyed = λ name has. put_keyed n row old.trees new.trees ran name has (holds.keyed name has);
}

-- and into tables of the newest schema
pub hold_put : (row : StoredRow) (old new : Database) → new.schema ≡ stored_schema → IsDatabase new → PutsColumns newest (table_of row) (columns_of row) old.trees new.trees → (contents : Contents) → Hold old contents
    → Hold new (with_row contents row)
hold_put row old new schema sound ran contents holds = record {
  known = record {
    schema = schema;
    sound = sound;
    ordered = λ name. put_ordered newest row old.trees new.trees ran (tree_of name) (newest_has name) (holds.known.ordered name);
    apart = λ name. put_apart newest row old.trees new.trees ran name (newest_has name) (holds.known.apart name);
  };
  rows = λ key. put_rows newest row old.trees new.trees ran key contents (newest_has (table_at key)) (holds.rows key);
  keyed = λ name. put_keyed newest row old.trees new.trees ran name (newest_has name) (holds.keyed name);
}

-- tables with the same rows hold the same contents
pub hold_left : (old new : Database) → new.schema ≡ stored_schema → IsDatabase new → ((t : TableName) → new.trees (tree_of t) ≡ old.trees (tree_of t)) → (contents : Contents) → Hold old contents → Hold new contents
hold_left old new schema sound same contents holds = record {
  known = record {
    schema = schema;
    sound = sound;
    ordered = λ t. subst (IsShaped TableTree) (sym (same t)) (holds.known.ordered t);
    apart = λ t. subst (AreApart (key_places t)) (sym (same t)) (holds.known.apart t);
  };
  rows = λ key. ap (λ rows. option_map (shown (table_at key)) (find (has_key key) rows)) (same (table_at key)) ∙ holds.rows key;
  keyed = λ t. subst (HaveKeys t) (sym (same t)) (holds.keyed t);
}

-- ---- new tables

pub new_known : (db : Database) → AreNew db → AreKnown db
new_known db new = record {
  schema = new.schema;
  sound = new.sound;
  ordered = λ t. subst (IsShaped TableTree) (sym (new.empty t)) (tt, tt);
  apart = λ t. subst (AreApart (key_places t)) (sym (new.empty t)) (λ a b is_a is_b same. absurd is_a);
}

-- They hold no row.
pub new_holds : (db : Database) → AreNew db → Hold db (λ key. None)
new_holds db new = record {
  known = new_known db new;
  rows = λ key. ap (λ rows. option_map (shown (table_at key)) (find (has_key key) rows)) (new.empty (table_at key));
  keyed = λ t. subst (HaveKeys t) (sym (new.empty t)) (λ row has. absurd has);
}
