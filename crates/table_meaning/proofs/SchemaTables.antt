-- The tables of a schema by its number: each by its tree, and what they hold once the newest schema is made from them.
use Rattle.std.proofs.Common.{◌≡◌, ◌+◌, ℕ, suc, Bool, true, false, not, cond, List, [], ◌∷◌, ◌++◌, map, drop, length, find, slice_get, Some, None, option_map, refl, sym, ap, subst, ◌∙◌, inl, inr, true≢false, arith}
use Rattle.std.specs.Prelude.{◌==◌, ◌||◌}
use Rattle.std.specs.List.{AllByRecursion, list_any, position_or_len, range_with_len}
use Rattle.std.proofs.lemmas.Option.{same_Some}
use Rattle.std.proofs.lemmas.Bool.{cases_Bool, eqb-true, eq-eqb}
use Rattle.sqlite_trees.specs.declared.store.Shape.TheVariants.{Table as TableTree}
use Rattle.sqlite_trees.specs.View.{IsShaped}
use Rattle.sqlite.specs.Effect.{Database, IsDatabase}
use Rattle.table_meaning.specs.declared.tables.TableName.{TableName}
use Rattle.table_meaning.specs.declared.tables.TableName.TheVariants.{Setting}
use Rattle.table_meaning.specs.Layouts.{Layout}
use Rattle.table_meaning.specs.Schema.{newest, layouts_at, sql_table, schema_at, table_by, table_place}
use Rattle.table_meaning.specs.Rows.{tree_of, key_places, shown, columns_of, RowKey, table_at, has_key}
use Rattle.table_meaning.specs.Holding.{AreApart, AreKnown, Contents, HaveKeys, Hold}
use Rattle.table_meaning.specs.Schemas.{IsSchema, has_tree, has_table, AreKnownAt, HoldAt, only_at}
use Rattle.table_meaning.specs.Making.{AreStillToMake, rows_at}
use Rattle.table_meaning.proofs.ByComputing.{computed}
use Rattle.table_meaning.proofs.EachSchema.{of_schema}

-- what holds for the tree of each table of the schema holds for each tree that it has
pub at_tree : (n : ℕ) (P : ℕ → Type 0) → AllByRecursion (λ t. P t.tree) (schema_at n).tables → (tree : ℕ) → has_tree n tree ≡ true → P tree
at_tree n P all tree has = go (layouts_at n) all has
  where
    go : (ls : List Layout) → AllByRecursion (λ t. P t.tree) (map sql_table ls) → list_any (λ l. l.tree == tree) ls ≡ true → P tree
    go [] all has = absurd (true≢false (sym has))
    go (l ∷ ls) all has = elim (cases_Bool (l.tree == tree)) [
      | inl here ↦ subst P (eqb-true _ _ here) all.0
      | inr other ↦ go ls all.1 (rw other at has)
    ]

-- and conversely
pub each_tree : (n : ℕ) (P : ℕ → Type 0) → ((tree : ℕ) → has_tree n tree ≡ true → P tree) → AllByRecursion (λ t. P t.tree) (schema_at n).tables
each_tree n P each = go (layouts_at n) each
  where
    here : (tree : ℕ) (ls : List Layout) → ((tree == tree) || list_any (λ l. l.tree == tree) ls) ≡ true
    here tree ls = rw (eq-eqb tree tree refl) refl

    later : (l : Layout) (tree : ℕ) (ls : List Layout) → list_any (λ l. l.tree == tree) ls ≡ true → ((l.tree == tree) || list_any (λ l. l.tree == tree) ls) ≡ true
    later l tree ls has = elim (l.tree == tree) as (λ b. (b || list_any (λ l. l.tree == tree) ls) ≡ true) [ true ↦ refl | false ↦ has ]

    go : (ls : List Layout) → ((tree : ℕ) → list_any (λ l. l.tree == tree) ls ≡ true → P tree) → AllByRecursion (λ t. P t.tree) (map sql_table ls)
    go [] each = tt
    go (l ∷ ls) each = (each l.tree (here l.tree ls), go ls (λ tree has. each tree (later l tree ls has)))

-- ---- the tables of a schema among those of the newest

-- a table found in the front of a list is found there in the whole list
found_in_front : (p : Layout → Bool) (xs ys : List Layout) → list_any p xs ≡ true → slice_get (map sql_table xs) (position_or_len p (xs ++ ys)) ≡ slice_get (map sql_table (xs ++ ys)) (position_or_len p (xs ++ ys))
found_in_front p [] ys any = absurd (true≢false (sym any))
found_in_front p (x ∷ xs) ys any = go (p x) refl (found_in_front p xs ys)
  where
    go : (b : Bool) → p x ≡ b → (list_any p xs ≡ true → slice_get (map sql_table xs) (position_or_len p (xs ++ ys)) ≡ slice_get (map sql_table (xs ++ ys)) (position_or_len p (xs ++ ys)))
        → slice_get (map sql_table (x ∷ xs)) (cond (not b) (1 + position_or_len p (xs ++ ys)) 0) ≡ slice_get (map sql_table (x ∷ xs ++ ys)) (cond (not b) (1 + position_or_len p (xs ++ ys)) 0)
    go true here later = refl
    go false other later =
        let next : 1 + position_or_len p (xs ++ ys) ≡ suc (position_or_len p (xs ++ ys)) = omega arith in
        rw next (later (sym (ap (λ b. b || list_any p xs) other) ∙ any))

-- the tables of a schema have their places among those of the newest
pub listed_at : (n : ℕ) → IsSchema n → (t : TableName) → has_table n t ≡ true → slice_get (schema_at n).tables (table_place t) ≡ Some (table_by t)
listed_at n is t has =
    let p = λ (l : Layout). l.tree == tree_of t in
    let front = (of_schema n is).front in
    let more = drop (length (layouts_at n)) (layouts_at newest) in
    ap (λ ls. slice_get (map sql_table (layouts_at n)) (position_or_len p ls)) front ∙ found_in_front p (layouts_at n) more has
    ∙ sym (ap (λ ls. slice_get (map sql_table ls) (position_or_len p ls)) front) ∙ (computed t).listed

any_in_front : {X : Type 0} (p : X → Bool) (xs ys : List X) → list_any p xs ≡ true → list_any p (xs ++ ys) ≡ true
any_in_front p [] ys any = absurd (true≢false (sym any))
any_in_front p (x ∷ xs) ys any = go (p x) refl (any_in_front p xs ys)
  where
    go : (b : Bool) → p x ≡ b → (list_any p xs ≡ true → list_any p (xs ++ ys) ≡ true) → (b || list_any p (xs ++ ys)) ≡ true
    go true here later = refl
    go false other later = later (sym (ap (λ b. b || list_any p xs) other) ∙ any)

-- every schema has the tables of the first one
pub stands_since_first : (n : ℕ) → IsSchema n → (t : TableName) → has_table 1 t ≡ true → has_table n t ≡ true
stands_since_first n is t has = ap (list_any (λ l. l.tree == tree_of t)) (of_schema n is).since_first ∙ any_in_front (λ l. l.tree == tree_of t) (layouts_at 1) (drop (length (layouts_at 1)) (layouts_at n)) has

pub has_settings : (n : ℕ) → IsSchema n → has_table n Setting ≡ true
has_settings n is = stands_since_first n is Setting refl

-- ---- the newest schema

pub newest_has : (t : TableName) → has_table newest t ≡ true
newest_has t = (computed t).stands

pub known_newest : (db : Database) → AreKnownAt newest db → AreKnown db
known_newest db known = record {
  schema = known.schema;
  sound = known.sound;
  ordered = λ t. at_tree newest (λ tree. IsShaped TableTree (db.trees tree)) known.ordered (tree_of t) (newest_has t);
  apart = λ t. known.apart t (newest_has t);
}

-- ---- a schema made from tables of another

module _ (n m : ℕ) (old new : Database) (left : AreStillToMake (schema_at m) (rows_at n old.trees) [] new) where
  rows_are : (tree : ℕ) → has_tree m tree ≡ true → new.trees tree ≡ cond (has_tree n tree) (old.trees tree) []
  rows_are = at_tree m (λ tree. new.trees tree ≡ rows_at n old.trees tree) (subst (λ s. AllByRecursion (λ t. new.trees t.tree ≡ rows_at n old.trees t.tree) s.tables) left.whole left.same)

  -- a tree that both schemas have is as it was
  pub stays_made : (tree : ℕ) → has_tree m tree ≡ true → has_tree n tree ≡ true → new.trees tree ≡ old.trees tree
  stays_made tree is had = rows_are tree is ∙ ap (λ b. cond b (old.trees tree) []) had

  -- the tables of the earlier schema have the rows that they had, and the others have none
  pub hold_made : IsDatabase new → (contents : Contents) → HoldAt n old contents → HoldAt m new (only_at n contents)
  hold_made sound contents holds = record {
    known = record {
      schema = left.whole;
      sound = sound;
      ordered = each_tree m (λ tree. IsShaped TableTree (new.trees tree)) (λ tree is. subst (IsShaped TableTree) (sym (rows_are tree is)) (ordered tree (has_tree n tree) refl));
      apart = λ t is. subst (AreApart (key_places t)) (sym (rows_are (tree_of t) is)) (apart t (has_table n t) refl);
    };
    rows = λ key is. ap (λ rows. option_map (shown (table_at key)) (find (has_key key) rows)) (rows_are (tree_of (table_at key)) is) ∙ found key (has_table n (table_at key)) refl;
    keyed = λ t is. subst (HaveKeys t) (sym (rows_are (tree_of t) is)) (keyed t (has_table n t) refl);
  }
    where
      ordered : (tree : ℕ) (had : Bool) → has_tree n tree ≡ had → IsShaped TableTree (cond had (old.trees tree) [])
      ordered tree true is = at_tree n (λ tree. IsShaped TableTree (old.trees tree)) holds.known.ordered tree is
      ordered tree false is = (tt, tt)

      apart : (t : TableName) (had : Bool) → has_table n t ≡ had → AreApart (key_places t) (cond had (old.trees (tree_of t)) [])
      apart t true is = holds.known.apart t is
      apart t false is = λ a b is_a is_b same. absurd is_a

      keyed : (t : TableName) (had : Bool) → has_table n t ≡ had → HaveKeys t (cond had (old.trees (tree_of t)) [])
      keyed t true is = holds.keyed t is
      keyed t false is = λ row has. absurd has

      found : (key : RowKey) (had : Bool) → has_table n (table_at key) ≡ had
          → option_map (shown (table_at key)) (find (has_key key) (cond had (old.trees (tree_of (table_at key))) [])) ≡ option_map columns_of (cond had (contents key) None)
      found key true is = holds.rows key is
      found key false is = refl

-- ---- the tables of a schema hold the same

-- contents that agree at each key of the schema
pub hold_at_same : (n : ℕ) (db : Database) (one other : Contents) → ((key : RowKey) → has_table n (table_at key) ≡ true → one key ≡ other key) → HoldAt n db one → HoldAt n db other
hold_at_same n db one other same holds = record { known = holds.known; rows = λ key is. holds.rows key is ∙ ap (option_map columns_of) (same key is); keyed = holds.keyed }

pub hold_newest : (db : Database) (contents : Contents) → HoldAt newest db contents → Hold db contents
hold_newest db contents holds = record {
  known = known_newest db holds.known;
  rows = λ key. holds.rows key (newest_has (table_at key));
  keyed = λ t. holds.keyed t (newest_has t);
}

-- ---- schemas have different numbers

pub same_number : (n m : ℕ) → IsSchema n → IsSchema m → schema_at n ≡ schema_at m → n ≡ m
same_number n m is_n is_m same =
    same_Some n m (sym (of_schema n is_n).number ∙ ap (λ s. find (λ k. length (schema_at k).tables == length s.tables) (range_with_len 1 newest)) same ∙ (of_schema m is_m).number)
