-- The instances that a statement lists of a workunit are the world's.
use Rattle.std.proofs.Common.{◌≡◌, ℕ, zero, suc, ◌+◌, ◌<◌, Bool, true, false, cond, List, [], ◌∷◌, ◌++◌, map, filter, slice_get, Option, Some, None, option_map, refl, sym, ap, ap₂, ◌∙◌, inl, inr, arith}
use Rattle.std.specs.Prelude.{◌==◌, filter_map, option_and_then, unwrap_or}
use Rattle.std.specs.List.{AllByRecursion, cons_option}
use Rattle.std.proofs.lemmas.Bool.{cases_Bool, eqb-true, eq-eqb}
use Rattle.std.proofs.lemmas.List.{append-nil}
use Rattle.std.proofs.lemmas.List.Elements.{recursion_from_All, filter-append}
use Rattle.sqlite_keyed.proofs.ListLemmas.{map-map}
use Rattle.sqlite.specs.Effect.{Database}
use Rattle.sched_book.specs.Desk.{instances_at}
use Rattle.sched_book.specs.Places.{unit_at, places_in, places_among, places}
use Rattle.sched_book.specs.declared.instance.Instance.{Instance as Job}
use Rattle.sched_book.specs.declared.instance.Place.{Place}
use Rattle.sched_book.specs.declared.instance.UnitBook.{UnitBook}
use Rattle.sched_book.specs.declared.world.World.{World}
use Rattle.sched_book.proofs.PlacesOf.{nth-suc}
use Rattle.sched_book.proofs.PlacesWhere.{each_among}
use Rattle.table_meaning.specs.declared.rows.StoredInstance.{StoredInstance}
use Rattle.table_meaning.specs.declared.rows.StoredRow.{StoredRow}
use Rattle.table_meaning.specs.declared.rows.StoredRow.TheVariants as stored
use Rattle.table_meaning.specs.Holding.{Contents}
use Rattle.table_meaning.specs.Places.{instance_row_at, instances_within}
use Rattle.table_meaning.specs.Rows.{columns_of}
use Rattle.table_meaning.specs.Worlds.{contents_of, instance_row}
use Rattle.table_worlds.specs.ReadBack.{job_in}
use Rattle.table_worlds.proofs.ReadBack.{job_back}
use Rattle.table_desk.specs.Asked.{Tell}

-- ---- the places of one workunit

abbrev is_of : ℕ → Place → Bool
is_of unit place = place.unit == unit

none_kept : (unit : ℕ) (ps : List Place) → AllByRecursion (λ p. is_of unit p ≡ false) ps → filter (is_of unit) ps ≡ []
none_kept unit [] all = refl
none_kept unit (p ∷ ps) all = ap (λ b. cond b (p ∷ filter (is_of unit) ps) (filter (is_of unit) ps)) all.0 ∙ none_kept unit ps all.1

in_own : (unit n : ℕ) (xs : List Job) → filter (is_of unit) (places_in unit n (λ x. true) xs) ≡ places_in unit n (λ x. true) xs
in_own unit n [] = refl
in_own unit n (x ∷ xs) =
    ap₂ (λ b l. cond b (record { unit = unit; number = n } ∷ filter (is_of unit) (places_in unit (n + 1) (λ y. true) xs)) l) (eq-eqb unit unit refl) refl
    ∙ ap (λ l. record { unit = unit; number = n } ∷ l) (in_own unit (n + 1) xs)

in_other : (unit other n : ℕ) (xs : List Job) → (other == unit) ≡ false → filter (is_of unit) (places_in other n (λ x. true) xs) ≡ []
in_other unit other n [] apart = refl
in_other unit other n (x ∷ xs) apart =
    ap (λ b. cond b (record { unit = other; number = n } ∷ filter (is_of unit) (places_in other (n + 1) (λ y. true) xs)) (filter (is_of unit) (places_in other (n + 1) (λ y. true) xs))) apart
    ∙ in_other unit other (n + 1) xs apart

later_apart : (unit from : ℕ) (bs : List UnitBook) → unit < from → filter (is_of unit) (places_among from (λ b x. true) bs) ≡ []
later_apart unit from bs past =
    none_kept unit _ (recursion_from_All (λ p. is_of unit p ≡ false) (places_among from (λ b x. true) bs)
    (each_among (λ b x. true) (λ p. is_of unit p ≡ false) from bs (λ i n b x stands is pass. apart (from + i) (omega (arith, past)))))
  where
    apart : (other : ℕ) → unit < other → (other == unit) ≡ false
    apart other lt = elim (cases_Bool (other == unit)) [
      | inl same ↦ let is : other ≡ unit = eqb-true other unit same in absurd (omega (arith, lt, is))
      | inr differs ↦ differs
    ]

-- the instances of the workunit at an index of a list, or none if there is no workunit there
abbrev found_in : ℕ → ℕ → List UnitBook → List Job
found_in from i bs = unwrap_or (option_map (λ (b : UnitBook). b.instances) (slice_get bs i)) []

of_unit : (unit i from : ℕ) (bs : List UnitBook) → unit ≡ i + from → filter (is_of unit) (places_among from (λ b x. true) bs) ≡ places_in unit 0 (λ x. true) (found_in from i bs)
of_unit unit i from [] is = refl
of_unit unit zero from (b ∷ bs) is =
    let here : from ≡ unit = omega (arith, is) in
    filter-append (is_of unit) (places_in from 0 (λ x. true) b.instances) (places_among (from + 1) (λ b x. true) bs)
    ∙ ap₂ (λ (xs ys : List Place). xs ++ ys) (ap (λ u. filter (is_of unit) (places_in u 0 (λ x. true) b.instances)) here ∙ in_own unit 0 b.instances) (later_apart unit (from + 1) bs (omega (arith, is)))
    ∙ append-nil (places_in unit 0 (λ x. true) b.instances)
of_unit unit (suc i) from (b ∷ bs) is =
    filter-append (is_of unit) (places_in from 0 (λ x. true) b.instances) (places_among (from + 1) (λ b x. true) bs)
    ∙ ap₂ (λ (xs ys : List Place). xs ++ ys) (in_other unit from 0 b.instances apart) (of_unit unit i (from + 1) bs (omega (arith, is)))
  where
    apart : (from == unit) ≡ false
    apart = elim (cases_Bool (from == unit)) [
      | inl same ↦ let equal : from ≡ unit = eqb-true from unit same in absurd (omega (arith, is, equal))
      | inr differs ↦ differs
    ]

-- ---- what the tables hold of them

module _ (db : Database) (w : World) (tell : Tell db w) where
  abbrev contents : Contents
  contents = contents_of w tell.calls tell.batches

  abbrev told : StoredRow → Job
  told row = job_in (columns_of row)

  told_in : (unit : ℕ) (b : UnitBook) → unit_at w unit ≡ Some b → (n : ℕ) (xs : List Job) → ((i m : ℕ) → m ≡ i + n → slice_get b.instances m ≡ slice_get xs i)
      → map told (filter_map (instance_row_at contents) (places_in unit n (λ x. true) xs)) ≡ xs
  told_in unit b is n [] stands = refl
  told_in unit b is n (x ∷ xs) stands =
      let here : instance_row_at contents (record { unit = unit; number = n }) ≡ Some (stored.Instance (instance_row w b unit n x)) =
      ap (option_and_then (λ (b : UnitBook). option_map (λ x. stored.Instance (instance_row w b unit n x)) (slice_get b.instances n))) is ∙ ap (option_map (λ x. stored.Instance (instance_row w b unit n x))) (stands 0 n (omega arith)) in
      ap (λ o. map told (cons_option o (filter_map (instance_row_at contents) (places_in unit (n + 1) (λ y. true) xs)))) here
      ∙ ap₂ ◌∷◌ (job_back w b unit n x) (told_in unit b is (n + 1) xs (λ i m at. stands (suc i) m (omega (arith, at))))

  pub instances_told : (unit : ℕ) (rows : List StoredInstance) → map stored.Instance rows ≡ instances_within contents unit (places w) → map (λ row. told (stored.Instance row)) rows ≡ instances_at w unit
  instances_told unit rows read = sym (map-map told stored.Instance rows) ∙ ap (map told) read ∙ cases unit refl
    where
      cases : (u : ℕ) → u ≡ unit → map told (filter_map (instance_row_at contents) (filter (is_of u) (places w))) ≡ instances_at w u
      cases zero is = ap (λ l. map told (filter_map (instance_row_at contents) l)) (later_apart zero 1 w.units (omega arith))
      cases (suc i) is =
          ap (λ l. map told (filter_map (instance_row_at contents) l)) (of_unit (suc i) i 1 w.units (omega arith)) ∙ there (slice_get w.units i) refl
          ∙ sym (ap (λ o. unwrap_or (option_map (λ (b : UnitBook). b.instances) o) []) (nth-suc w.units i))
        where
          there : (o : Option UnitBook) → slice_get w.units i ≡ o → map told (filter_map (instance_row_at contents) (places_in (suc i) 0 (λ x. true) (unwrap_or (option_map (λ (b : UnitBook). b.instances) (slice_get w.units i)) [])))
              ≡ unwrap_or (option_map (λ (b : UnitBook). b.instances) (slice_get w.units i)) []
          there None found = ap (λ o. map told (filter_map (instance_row_at contents) (places_in (suc i) 0 (λ x. true) (unwrap_or (option_map (λ (b : UnitBook). b.instances) o) [])))) found ∙ sym (ap (λ o. unwrap_or (option_map (λ (b : UnitBook). b.instances) o) []) found)
          there (Some b) found =
              ap (λ o. map told (filter_map (instance_row_at contents) (places_in (suc i) 0 (λ x. true) (unwrap_or (option_map (λ (b : UnitBook). b.instances) o) [])))) found
              ∙ told_in (suc i) b (nth-suc w.units i ∙ found) 0 b.instances (λ j m at. ap (slice_get b.instances) (let same : m ≡ j = omega (arith, at) in same))
              ∙ sym (ap (λ o. unwrap_or (option_map (λ (b : UnitBook). b.instances) o) []) found)
