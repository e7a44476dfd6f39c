-- If tables obey a schema and the numbers of their rows rise, they are known tables of that schema.
use Rattle.std.proofs.Common.{◌≡◌, ℕ, Bool, true, false, not, ◌&&◌, List, [], ◌∷◌, map, take, length, slice_get, get_or, Some, refl, sym, ap₂, subst, ◌∙◌, Ordering, Less, Equal, Greater, is_eq, int_eq}
use Rattle.std.specs.List.{AllByRecursion, range_with_len}
use Rattle.std.proofs.lemmas.Bool.{both_ways, false_from_ne_true, and_from}
use Rattle.sqlite_value.specs.declared.value.Value.TheVariants.{Int}
use Rattle.sqlite_value.specs.declared.keys.Collation.TheVariants.{Binary}
use Rattle.sqlite_value.specs.Order.{Row, value_cmp}
use Rattle.sqlite_value.specs.Keys.{plain, first_key}
use Rattle.sqlite_value.proofs.OrderLemmas.{value_cmp-Int}
use Rattle.sqlite_trees.specs.declared.store.Shape.TheVariants.{Table as TableTree}
use Rattle.sqlite_trees.specs.Tree.{Trees, rowid}
use Rattle.sqlite_trees.specs.View.{View, IsShaped, IsOrdered}
use Rattle.sqlite_trees.specs.Objects.{catalog_tree, IsListed}
use Rattle.sqlite_trees.specs.declared.store.Shape.{Shape}
use Rattle.sqlite_catalog.specs.Listing.{Lists, IsSound}
use Rattle.sqlite_catalog.proofs.AlterLemmas.{keys_are_unique}
use Rattle.sqlite_catalog.proofs.LayoutLemmas.{objects_rise}
use Rattle.sqlite_catalog.proofs.ReadLemmas.{shaped_of}
use Rattle.sqlite_schema.specs.declared.schema.Schema.{Schema}
use Rattle.sqlite_sql.specs.declared.ops.CompareOp.TheVariants.{Eq, Ne}
use Rattle.sqlite_schema.specs.declared.schema.Table.{Table}
use Rattle.sqlite_schema.specs.Rules.{agree, equal, differ, clashes}
use Rattle.sqlite_rules.specs.Edit.{id_in}
use Rattle.sqlite_rules.specs.Lists.{Has}
use Rattle.sqlite_rules.proofs.ListLemmas.{all_has, has_got, some_from}
use Rattle.sqlite_rules.proofs.TableLemmas.{int_is}
use Rattle.sqlite_rules.proofs.PlaceLemmas.{tied_same}
use Rattle.sqlite_keyed.proofs.ListLemmas.{all_weaker}
use Rattle.sqlite_typed.proofs.TestLemmas.{at_ints, last_term}
use Rattle.sqlite.specs.Effect.{Database, IsDatabase}
use Rattle.table_meaning.specs.declared.tables.TableName.{TableName}
use Rattle.table_meaning.specs.Layouts.{Key, numbered, by_first, layout_of, places_by, key_width}
use Rattle.table_meaning.specs.Schema.{in_row, uniques_with, schema_at, table_by, table_place}
use Rattle.table_meaning.specs.Rows.{tree_of}
use Rattle.table_meaning.specs.Holding.{AreApart}
use Rattle.table_meaning.specs.Schemas.{IsSchema, has_table, AreKnownAt}
use Rattle.table_meaning.proofs.SchemaTables.{at_tree, listed_at}

equal_is : (o : Ordering) → is_eq o ≡ true → o ≡ Equal
equal_is Less h = absurd (cc)
equal_is Equal h = refl
equal_is Greater h = absurd (cc)

module _ (rows : List Row) (shaped : IsShaped TableTree rows) (a b : Row) (is_a : Has rows a) (is_b : Has rows b) where
  number_a : rowid a ≡ Int (id_in (rowid a))
  number_a = int_is (rowid a) (all_has _ rows a shaped.1 is_a)

  number_b : rowid b ≡ Int (id_in (rowid b))
  number_b = int_is (rowid b) (all_has _ rows b shaped.1 is_b)

  -- a number has at most one row
  one_row : int_eq (id_in (rowid a)) (id_in (rowid b)) ≡ true → a ≡ b
  one_row same = tied_same rows a b shaped.0 is_a is_b (ap₂ value_cmp number_a number_b ∙ value_cmp-Int _ _ ∙ equal_is _ same)

  same_number : agree plain (0 ∷ []) a (0 ∷ []) b ≡ true → a ≡ b
  unfolding first_key
  same_number same =
      let numbers : (equal Binary (Int (id_in (rowid a))) (Int (id_in (rowid b))) && true) ≡ true =
      subst (λ v. (equal Binary (Int (id_in (rowid a))) v && true) ≡ true) number_b (subst (λ v. (equal Binary v (rowid b) && true) ≡ true) number_a same) in
      one_row (sym (last_term (at_ints false Eq (id_in (rowid a)) (id_in (rowid b)))) ∙ numbers)

  no_clash : (places : List ℕ) → clashes plain places rows b ≡ false → agree plain places a places b ≡ true → a ≡ b
  no_clash places none same =
      let together : differ (rowid a) (rowid b) ≡ false =
      false_from_ne_true _ (λ apart. both_ways _ none (some_from (λ other. agree plain places other places b && differ (rowid other) (rowid b)) rows a is_a (and_from _ _ same apart))) in
      let numbers : differ (Int (id_in (rowid a))) (Int (id_in (rowid b))) ≡ false = subst (λ v. differ (Int (id_in (rowid a))) v ≡ false) number_b (subst (λ v. differ v (rowid b) ≡ false) number_a together) in
      one_row (back _ (sym (at_ints false Ne (id_in (rowid a)) (id_in (rowid b))) ∙ numbers))
    where
      back : (b : Bool) → not b ≡ false → b ≡ true
      back true h = refl
      back false h = absurd (cc)

-- No two rows of a table have the same key. The key is their number, or the first list of columns that UNIQUE and PRIMARY KEY keep apart.
apart_by : (key : Key) (count : ℕ) (others : List (List ℕ)) (rows : List Row) → IsShaped TableTree rows
    → ((ps : List ℕ) (row : Row) → slice_get (uniques_with key (take (key_width key) (places_by key count)) others) 0 ≡ Some ps → Has rows row → clashes plain ps rows row ≡ false)
    → AreApart (take (key_width key) (places_by key count)) rows
apart_by numbered count others rows shaped unique a b is_a is_b same = same_number rows shaped a b is_a is_b same
apart_by (by_first n) count others rows shaped unique a b is_a is_b same = no_clash rows shaped a b is_a is_b (take n (range_with_len 1 count)) (unique _ b refl is_b) same

pub known_at_from : (n : ℕ) → IsSchema n → (db : Database) → db.schema ≡ schema_at n → IsDatabase db → AllByRecursion (λ t. IsShaped TableTree (db.trees t.tree)) db.schema.tables → AreKnownAt n db
known_at_from n is db schema sound rising = record {
  schema = schema;
  sound = sound;
  ordered = ordered;
  apart = λ t has.
      let l = layout_of t in
      apart_by l.key (length l.columns) (map (in_row l) l.uniques) (db.trees l.tree) (at_tree n (λ tree. IsShaped TableTree (db.trees tree)) ordered l.tree has) (unique t has);
}
  where
    orders_are : (uniques : List (List ℕ)) → get_or (map (λ _. plain) uniques) 0 plain ≡ plain
    orders_are [] = refl
    orders_are (u ∷ uniques) = refl

    ordered : AllByRecursion (λ t. IsShaped TableTree (db.trees t.tree)) (schema_at n).tables
    ordered = subst (λ s. AllByRecursion (λ t. IsShaped TableTree (db.trees t.tree)) s.tables) schema rising

    unique : (t : TableName) → has_table n t ≡ true → (ps : List ℕ) (row : Row) → slice_get (table_by t).uniques 0 ≡ Some ps → Has (db.trees (tree_of t)) row
        → clashes plain ps (db.trees (tree_of t)) row ≡ false
    unique t stands ps row first has =
        let listed : Has db.schema.tables (table_by t) = subst (λ s. Has s.tables (table_by t)) (sym schema) (has_got (schema_at n).tables (table_place t) (table_by t) (listed_at n is t stands)) in
        subst (λ order. clashes order ps (db.trees (tree_of t)) row ≡ false) (orders_are (table_by t).uniques) (keys_are_unique db.schema db.trees (table_by t) 0 ps row sound listed first has)

-- ---- a store keeps the numbers of each table's rows rising

pub tables_rise : (v : View) (schema : Schema) (trees : Trees) → trees ≡ v.trees → IsOrdered v.shape v.trees → IsListed (v.trees catalog_tree) v.shape v.reals → IsSound schema trees
    → AllByRecursion (λ t. IsShaped TableTree (trees t.tree)) schema.tables
tables_rise v schema trees same order listed sound =
    let rising = objects_rise v listed order in
    let lists = subst (λ (t : Trees). Lists (t catalog_tree) schema) same sound.lists in
    let shaped = shaped_of v schema listed rising lists in
    subst (λ (ts : Trees). AllByRecursion (λ (t : Table). IsShaped TableTree (ts t.tree)) schema.tables) (sym same)
    (all_weaker _ (λ (t : Table). IsShaped TableTree (v.trees t.tree)) (λ t h. subst (λ (s : Shape). IsShaped s (v.trees t.tree)) h.0 (order t.tree)) schema.tables shaped.tables)
