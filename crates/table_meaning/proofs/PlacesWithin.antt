-- What the statement that lists the instances of a workunit shows.
use Rattle.std.proofs.Common.{◌≡◌, ℕ, pos, Bool, false, List, [], ◌∷◌, map, refl, ap, ◌∙◌, arith}
use Rattle.std.specs.Prelude.{◌==◌}
use Rattle.std.specs.List.{list_all}
use Rattle.std.specs.Ordering.{int_eq}
use Rattle.std.proofs.lemmas.Int.{ints}
use Rattle.sched_book.specs.declared.instance.Place.{Place}
use Rattle.sqlite_value.specs.declared.value.Value.TheVariants.{Null}
use Rattle.sqlite_value.specs.Order.{Row, column}
use Rattle.sqlite_sql.specs.declared.ops.CompareOp.TheVariants.{Eq}
use Rattle.sqlite_sql.specs.Term.{holds}
use Rattle.sqlite_keyed.proofs.ListLemmas.{map-map}
use Rattle.sqlite_typed.proofs.TestLemmas.{at_ints, last_term}
use Rattle.sqlite.specs.State.{State, Shown}
use Rattle.sqlite.proofs.Callers.{reads_as}
use Rattle.table_meaning.specs.declared.tables.TableName.TheVariants.{Instance}
use Rattle.table_meaning.specs.declared.rows.StoredInstance.{StoredInstance}
use Rattle.table_meaning.specs.declared.rows.StoredRow.TheVariants as stored
use Rattle.table_meaning.specs.Schema.{stored_schema}
use Rattle.table_meaning.specs.Rows.{shown, whole, columns_of}
use Rattle.table_meaning.specs.Holding.{Contents, Hold}
use Rattle.table_meaning.specs.Places.{AreAllPlaces, instances_within, compares, by_place, within_text, within_terms}
use Rattle.table_meaning.proofs.PlacesFound.{standing_shown}
use Rattle.table_meaning.proofs.PlacesListed.{listed_in_order}
use Rattle.table_meaning.proofs.PlacesTexts.{all, within_is_listed}
use Rattle.table_meaning.proofs.RowsKeyed.{all_told}

module _ (old new : State) (contents : Contents) (held : Hold old.now contents) (places : List Place) (are : AreAllPlaces contents places) where
  pub within_shown : (unit : ℕ) (rows : List Row) → Shown within_text (whole unit ∷ []) old new rows → (is : List StoredInstance) → map (λ i. columns_of (stored.Instance i)) is ≡ rows
      → map stored.Instance is ≡ instances_within contents unit places
  within_shown unit rows h is read =
      let params = whole unit ∷ [] in
      let test : Row → Bool = λ r. compares Eq (column r 0) (whole unit) in
      let tests : (r : Row) → list_all (holds (params ∷ r ∷ [])) within_terms ≡ test (shown Instance r) = λ r. last_term refl in
      let answer = (reads_as within_text params old new stored_schema held.known.schema _ within_is_listed.0 within_is_listed.1 within_is_listed.2 rows h).answer Null in
      let listed = listed_in_order old.now contents held places are within_terms params test tests (3 ∷ 4 ∷ 5 ∷ 6 ∷ 7 ∷ 8 ∷ 9 ∷ 10 ∷ []) by_place all rows answer refl in
      all_told (map stored.Instance is) (instances_within contents unit places)
      (map-map columns_of stored.Instance is ∙ read ∙ listed
      ∙ standing_shown old.now contents held places are test (λ p. p.unit == unit) (λ p r is. ap (λ v. compares Eq v (whole unit)) is ∙ at_ints false Eq (pos p.unit) (pos unit) ∙ same_number p.unit unit))
    where
      same_number : (a b : ℕ) → int_eq (pos a) (pos b) ≡ (a == b)
      same_number a b = grind (arith, ints)
