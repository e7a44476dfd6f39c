-- The rows of a world's instances, by their places.
use Rattle.std.proofs.Common.{◌≡◌, ℕ, zero, suc, ◌+◌, List, filter_map, map, Option, Some, None, option_map, refl, sym, ap, subst, ◌∙◌, inl, inr, arith}
use Rattle.std.specs.Prelude.{slice_get, unwrap_or, option_and_then}
use Rattle.std.proofs.lemmas.Option.{none-some}
use Rattle.sqlite_rules.specs.Lists.{Has}
use Rattle.sqlite_rules.proofs.ProbeLemmas.{mapped_has, has_mapped}
use Rattle.sched_book.specs.Places.{places, unit_at}
use Rattle.sched_book.specs.declared.instance.Instance.{Instance as Job}
use Rattle.sched_book.specs.declared.instance.Place.{Place}
use Rattle.sched_book.specs.declared.instance.UnitBook.{UnitBook}
use Rattle.sched_book.specs.declared.world.World.{World}
use Rattle.table_meaning.specs.declared.rows.StoredRow.{StoredRow}
use Rattle.table_meaning.specs.declared.rows.StoredRow.TheVariants as stored
use Rattle.table_meaning.specs.Worlds.{instance_row}
use Rattle.sched_book.proofs.PlacesOf.{nth-suc}
use Rattle.table_worlds.specs.declared.keys.WorldKey.TheVariants.{Instance}
use Rattle.table_worlds.specs.Keys.{row_in}
use Rattle.table_worlds.proofs.KeysListed.{instance_listed}
use Rattle.table_worlds.proofs.RowsHold.{kept_by, given_by}

abbrev place : ℕ → ℕ → Place
place unit number = record { unit = unit; number = number }

module _ (w : World) where
  -- an instance's row at a place, if this is the workunit
  abbrev row_of : ℕ → ℕ → Option UnitBook → Option StoredRow
  row_of unit number o = option_and_then (λ (b : UnitBook). option_map (λ (x : Job). stored.Instance (instance_row w b unit number x)) (slice_get b.instances number)) o

  at_index : (index number : ℕ) → row_in w (Instance (place (index + 1) number)) ≡ row_of (index + 1) number (slice_get w.units index)
  at_index index number =
      let after : suc index ≡ index + 1 = omega arith in
      ap (row_of (index + 1) number) (subst (λ n. unit_at w n ≡ slice_get w.units index) after (nth-suc w.units index))

  -- it is the row of an instance of the workunit at an index
  pub record IsRowAt (unit number : ℕ) (r : StoredRow) : Type 0 where
    pub index : ℕ
    pub book : UnitBook
    pub instance : Job
    pub unit_is : unit ≡ index + 1
    pub book_is : slice_get w.units index ≡ Some book
    pub instance_is : slice_get book.instances number ≡ Some instance
    pub row_is : r ≡ stored.Instance (instance_row w book (index + 1) number instance)

  -- a row of the world at the place of an instance is the row of that instance
  row_stands : (unit number : ℕ) (r : StoredRow) → row_in w (Instance (place unit number)) ≡ Some r → IsRowAt unit number r
  row_stands zero number r is = absurd (none-some r is)
  row_stands (suc index) number r is = of_unit (slice_get w.units index) refl (sym (at_index index number) ∙ subst (λ n. row_in w (Instance (place n number)) ≡ Some r) after is)
    where
      after : suc index ≡ index + 1
      after = omega arith

      of_instance : (b : UnitBook) → slice_get w.units index ≡ Some b → (o : Option Job) → slice_get b.instances number ≡ o → option_map (λ (x : Job). stored.Instance (instance_row w b (index + 1) number x)) o ≡ Some r → IsRowAt (suc index) number r
      of_instance b unit None there none = absurd (none-some r none)
      of_instance b unit (Some x) there found =
          record { index = index; book = b; instance = x; unit_is = after; book_is = unit; instance_is = there; row_is = sym (ap (λ o. unwrap_or o r) found) }

      of_unit : (o : Option UnitBook) → slice_get w.units index ≡ o → row_of (index + 1) number o ≡ Some r → IsRowAt (suc index) number r
      of_unit None unit none = absurd (none-some r none)
      of_unit (Some b) unit found = of_instance b unit (slice_get b.instances number) refl found

  abbrev pub own_rows : List StoredRow
  own_rows = filter_map (row_in w) (map Instance (places w))

  -- the row of an instance is among those of the world's instances
  pub own_listed : (index number : ℕ) (b : UnitBook) (x : Job) → slice_get w.units index ≡ Some b → slice_get b.instances number ≡ Some x → Has own_rows (stored.Instance (instance_row w b (index + 1) number x))
  own_listed index number b x unit there =
      let stands : row_in w (Instance (place (index + 1) number)) ≡ Some (stored.Instance (instance_row w b (index + 1) number x)) =
      at_index index number ∙ ap (row_of (index + 1) number) unit
      ∙ ap (option_map (λ (y : Job). stored.Instance (instance_row w b (index + 1) number y))) there in
      elim (instance_listed w (index + 1) number) [
        | inl none ↦ absurd (none-some _ (sym none ∙ stands))
        | inr has ↦ kept_by (row_in w) (map Instance (places w)) (Instance (place (index + 1) number)) _ (mapped_has Instance (places w) (place (index + 1) number) has) stands
      ]

  -- and each of these rows is such a row
  pub listed_own : (r : StoredRow) → Has own_rows r → (p : Place) × IsRowAt p.unit p.number r
  listed_own r has =
      let from = given_by (row_in w) (map Instance (places w)) r has in
      let at = has_mapped Instance (places w) from.0 from.1 in
      (at.0, row_stands at.0.unit at.0.number r (ap (row_in w) (sym at.2) ∙ from.2))
