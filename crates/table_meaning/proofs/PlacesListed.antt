-- What a statement that lists instances shows. Ordered by place, it shows exactly the instances at the places in turn that pass. In another order it shows the same rows.
use Rattle.std.proofs.Common.{◌≡◌, ◌≤◌, ℕ, Bool, ◌&&◌, List, [], ◌∷◌, ◌++◌, map, filter, length, Option, Some, None, refl, sym, ap, subst, ◌∙◌, Less, IsPermutation}
use Rattle.std.specs.List.{list_all}
use Rattle.std.proofs.lemmas.List.{take-map, take_all}
use Rattle.std.proofs.lemmas.List.Folds.{list_all-append}
use Rattle.std.proofs.lemmas.List.Sorted.{IsPermutation-map, IsPermutation-trans, length_permutation}
use Rattle.sched_book.specs.declared.instance.Place.{Place}
use Rattle.sqlite_value.specs.declared.keys.Key.{Key}
use Rattle.sqlite_value.specs.Order.{Row, column}
use Rattle.sqlite_trees.specs.Tree.{IsAscending}
use Rattle.sqlite_sql.specs.Term.{Term, col, eval, holds}
use Rattle.sqlite_sql.specs.Program.{overlay}
use Rattle.sqlite_sql.specs.Query.{Query, Output, matches, output, output_cmp, as_count, limited, IsAnswer}
use Rattle.sqlite_sql.proofs.QueryLemmas.{output_cmp_total}
use Rattle.sqlite_keyed.proofs.ListLemmas.{map-map, filter_same, ascending-map}
use Rattle.sqlite_keyed.proofs.SortLemmas.{sorted_unique}
use Rattle.sqlite.specs.Effect.{Database}
use Rattle.table_meaning.specs.declared.tables.TableName.TheVariants.{Instance}
use Rattle.table_meaning.specs.Rows.{shown}
use Rattle.table_meaning.specs.Holding.{Contents, Hold}
use Rattle.table_meaning.specs.Places.{AreAllPlaces, of_a_place, by_place, instance_query}
use Rattle.table_meaning.proofs.PlacesFound.{is_of_a_place, standing, standing_rises, standing_rows}
use Rattle.table_meaning.proofs.PlacesLists.{kept_for_each}
use Rattle.table_meaning.proofs.PlacesTexts.{all}

pub limited-map : {X Y : Type 0} (f : X → Y) (o : Option ℕ) (xs : List X) → map f (limited o xs) ≡ limited o (map f xs)
limited-map f None xs = refl
limited-map f (Some n) xs = sym (take-map f n xs)

module _ (db : Database) (contents : Contents) (held : Hold db contents) (places : List Place) (are : AreAllPlaces contents places)
    (terms : List Term) (params : Row) (test : Row → Bool) (tests : (r : Row) → list_all (holds (params ∷ r ∷ [])) terms ≡ test (shown Instance r))
    (more : List ℕ) where
  abbrev columns : List ℕ
  columns = 1 ∷ 2 ∷ more

  -- these columns of the rows at the places that pass
  abbrev pub picked : List Row
  picked = map (λ r. map (column r) columns) (standing db contents held places are test)

  module _ (order : List (Term × Key)) (limit : Term) (rows : List Row) (answer : IsAnswer (instance_query terms columns order limit) (overlay db.trees []) params rows) where
    abbrev q : Query
    q = instance_query terms columns order limit

    abbrev out : Row → Output
    out r = output q (params ∷ r ∷ [])

    abbrev asked : Row → Bool
    asked r = list_all (holds (params ∷ r ∷ [])) (of_a_place ++ terms)

    is_asked : (r : Row) → asked r ≡ (is_of_a_place r && test (shown Instance r))
    is_asked r = list_all-append (holds (params ∷ r ∷ [])) of_a_place terms ∙ ap (λ b. is_of_a_place r && b) (tests r)

    arranged : IsPermutation (map out (filter asked (db.trees 12))) answer.ordered
    arranged =
        let matched : matches (overlay db.trees []) q.filter q.from (params ∷ []) ≡ map (λ r. params ∷ r ∷ []) (filter asked (db.trees 12)) = kept_for_each asked (λ r. params ∷ r ∷ []) (db.trees 12) in
        subst (λ l. IsPermutation l answer.ordered) (answer.distinct ∙ ap (map (output q)) (answer.grouped ∙ matched) ∙ map-map (output q) (λ r. params ∷ r ∷ []) (filter asked (db.trees 12))) answer.same

    -- the outputs are those of these rows
    same_outputs : IsPermutation (map out (standing db contents held places are test)) answer.ordered
    same_outputs =
        IsPermutation-trans _ _ _ (IsPermutation-map out _ _ (standing_rows db contents held places are test))
        (subst (λ l. IsPermutation (map out l) answer.ordered) (filter_same asked (λ r. is_of_a_place r && test (shown Instance r)) is_asked (db.trees 12)) arranged)

    shown_all : map (λ (o : Output). o.1) (map out (standing db contents held places are test)) ≡ picked
    shown_all = map-map (λ (o : Output). o.1) out (standing db contents held places are test) ∙ (λ i. map (λ r. map-map (λ t. eval t (params ∷ r ∷ [])) (col 1) columns i) (standing db contents held places are test))

    abbrev in_turn : List Row
    in_turn = map (λ (o : Output). o.1) answer.ordered

    same_in_turn : IsPermutation picked in_turn
    same_in_turn = subst (λ l. IsPermutation l in_turn) shown_all (IsPermutation-map (λ (o : Output). o.1) _ _ same_outputs)

    -- in any order and without a limit
    pub listed_somehow : limit ≡ all → IsPermutation picked rows
    listed_somehow unlimited =
        let shown : rows ≡ in_turn = answer.shown ∙ ap (λ t. limited (as_count (eval t (params ∷ []))) in_turn) unlimited in
        subst (IsPermutation picked) (sym shown) same_in_turn

    -- in any order and with a limit, if there are no more rows than the limit
    pub listed_most : (most : ℕ) → as_count (eval limit (params ∷ [])) ≡ Some most → length picked ≤ most → IsPermutation picked rows
    listed_most most is few =
        let shown : rows ≡ limited (Some most) in_turn = answer.shown ∙ ap (λ n. limited n in_turn) is in
        let all_of_them : limited (Some most) in_turn ≡ in_turn = take_all most in_turn (subst (λ n. n ≤ most) (sym (length_permutation _ _ same_in_turn)) few) in
        subst (IsPermutation picked) (sym (shown ∙ all_of_them)) same_in_turn

    -- by place and up to a limit
    pub listed_in_order : order ≡ by_place → rows ≡ limited (as_count (eval limit (params ∷ []))) picked
    listed_in_order is_by_place =
        let same : answer.ordered ≡ map out (standing db contents held places are test) = sorted_unique (output_cmp q) (output_cmp_total q) _ _ rises same_outputs answer.sorted in
        answer.shown ∙ ap (limited (as_count (eval limit (params ∷ [])))) (ap (map (λ (o : Output). o.1)) same ∙ shown_all)
      where
        rises : IsAscending (λ a b. output_cmp q a b ≡ Less) (map out (standing db contents held places are test))
        rises = ascending-map (λ a b. output_cmp q a b ≡ Less) out (standing db contents held places are test)
            (subst (λ (o : List (Term × Key)). IsAscending (λ a b. output_cmp (instance_query terms columns o limit) (output (instance_query terms columns o limit) (params ∷ a ∷ [])) (output (instance_query terms columns o limit) (params ∷ b ∷ [])) ≡ Less) (standing db contents held places are test))
            (sym is_by_place) (standing_rises db contents held places are test))
