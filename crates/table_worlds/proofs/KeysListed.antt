-- Each key at which a world has a row is one of its keys, and the row has that key.
use Rattle.std.proofs.Common.{◌≡◌, ◌⊎◌, ℕ, zero, suc, ◌+◌, ◌<◌, true, List, [], ◌∷◌, length, Option, Some, None, option_map, option_and_then, refl, sym, ap, subst, ◌∙◌, arith, inl, inr}
use Rattle.std.specs.Prelude.{slice_get, unwrap_or}
use Rattle.std.specs.List.{range_with_len}
use Rattle.std.proofs.lemmas.Option.{none-some}
use Rattle.sqlite_rules.specs.Lists.{Has}
use Rattle.sqlite_rules.proofs.ProbeLemmas.{mapped_has}
use Rattle.sqlite_rules.proofs.ListLemmas.{has_left, has_right}
use Rattle.sched_book.specs.Places.{nth, unit_at, places_in, places_among, places}
use Rattle.sched_book.specs.declared.instance.Instance.{Instance as Job}
use Rattle.sched_book.specs.declared.instance.Place.{Place}
use Rattle.sched_book.specs.declared.instance.UnitBook.{UnitBook}
use Rattle.sched_book.specs.declared.world.World.{World}
use Rattle.sched_book.proofs.PlacesOf.{nth-suc}
use Rattle.table_meaning.specs.declared.rows.StoredRow.{StoredRow}
use Rattle.table_meaning.specs.declared.rows.StoredRow.TheVariants as stored
use Rattle.table_meaning.specs.Rows.{RowKey, row_key_of}
use Rattle.table_meaning.specs.Worlds.{instance_row}
use Rattle.table_meaning.proofs.Listings.{in_range}
use Rattle.table_worlds.specs.declared.keys.NumberedTable.{NumberedTable}
use Rattle.table_worlds.specs.declared.keys.WorldKey.{WorldKey}
use Rattle.table_worlds.specs.declared.keys.WorldKey.TheVariants.{Instance}
use Rattle.table_worlds.specs.Keys.{row_key, row_in, keyed, numbered}

-- ---- members of joined lists

-- ---- keys by number

-- there is no item at an index, or the index is one of the list
within : {X : Type 0} (xs : List X) (i : ℕ) → (slice_get xs i ≡ None) ⊎ (i < length xs)
within [] i = inl refl
within (x ∷ xs) zero = inr (omega arith)
within (x ∷ xs) (suc i) = elim (within xs i) [ inl none ↦ inl none | inr before ↦ inr (omega (arith, before)) ]

pub by_number : {X : Type 0} (t : NumberedTable) (xs : List X) (id : ℕ) → (nth xs id ≡ None) ⊎ Has (numbered t (length xs)) (keyed t id)
by_number t xs zero = inl refl
by_number t xs (suc i) = elim (within xs i) [
  | inl none ↦ inl (nth-suc xs i ∙ none)
  | inr before ↦ inr (mapped_has (keyed t) (range_with_len 1 (length xs)) (suc i) (in_range (length xs) 1 (suc i) (omega arith) (omega (arith, before))))
]

-- ---- keys of instances

abbrev place : ℕ → ℕ → Place
place unit number = record { unit = unit; number = number }

in_unit : (unit number k : ℕ) (xs : List Job) → (slice_get xs k ≡ None) ⊎ Has (places_in unit number (λ x. true) xs) (place unit (k + number))
in_unit unit number k [] = inl refl
in_unit unit number zero (x ∷ xs) = inr (inl (ap (place unit) (let same : 0 + number ≡ number = omega arith in same)))
in_unit unit number (suc k) (x ∷ xs) = elim (in_unit unit (number + 1) k xs) [
  | inl none ↦ inl none
  | inr has ↦ inr (inr (subst (λ n. Has (places_in unit (number + 1) (λ x. true) xs) (place unit n)) (let same : k + (number + 1) ≡ suc k + number = omega arith in same) has))
]

among : (from j k : ℕ) (bs : List UnitBook) → (option_and_then (λ (b : UnitBook). slice_get b.instances k) (slice_get bs j) ≡ None) ⊎ Has (places_among from (λ b x. true) bs) (place (j + from) k)
among from j k [] = inl refl
among from zero k (b ∷ bs) = elim (in_unit from 0 k b.instances) [
  | inl none ↦ inl none
  | inr has ↦ inr (has_left (places_in from 0 (λ x. true) b.instances) (places_among (from + 1) (λ b x. true) bs) (place (0 + from) k)
      (let number : k + 0 ≡ k = omega arith in let unit : from ≡ 0 + from = omega arith in
      subst (λ u. Has (places_in from 0 (λ x. true) b.instances) (place u k)) unit (subst (λ n. Has (places_in from 0 (λ x. true) b.instances) (place from n)) number has)))
]
among from (suc j) k (b ∷ bs) = elim (among (from + 1) j k bs) [
  | inl none ↦ inl none
  | inr has ↦ inr (has_right (places_in from 0 (λ x. true) b.instances) (places_among (from + 1) (λ b x. true) bs) (place (suc j + from) k)
      (subst (λ u. Has (places_among (from + 1) (λ b x. true) bs) (place u k)) (let same : j + (from + 1) ≡ suc j + from = omega arith in same) has))
]

-- ---- all keys

-- if there is no item, no row is made of it
pub no_row : {X Y : Type 0} (f : X → Y) (o : Option X) → o ≡ None → option_map f o ≡ None
no_row f o none = ap (option_map f) none

no_instance : (f : UnitBook → Job → StoredRow) (k : ℕ) (o : Option UnitBook) → option_and_then (λ (b : UnitBook). slice_get b.instances k) o ≡ None
    → option_and_then (λ (b : UnitBook). option_map (f b) (slice_get b.instances k)) o ≡ None
no_instance f k None none = refl
no_instance f k (Some b) none = ap (option_map (f b)) none

pub instance_listed : (w : World) (unit number : ℕ) → (row_in w (Instance (place unit number)) ≡ None) ⊎ Has (places w) (place unit number)
instance_listed w zero number = inl refl
instance_listed w (suc i) number = elim (among 1 i number w.units) [
  | inl none ↦ inl (no_instance _ number (unit_at w (suc i)) (ap (option_and_then (λ (b : UnitBook). slice_get b.instances number)) (nth-suc w.units i) ∙ none))
  | inr has ↦ inr (subst (λ u. Has (places w) (place u number)) (let same : i + 1 ≡ suc i = omega arith in same) has)
]

-- ---- the row at a key has that key

of_row : {X : Type 0} (f : X → StoredRow) (key : RowKey) → ((x : X) → row_key_of (f x) ≡ key) → (o : Option X) (r : StoredRow) → option_map f o ≡ Some r → row_key_of r ≡ key
of_row f key has None r is = absurd (none-some r is)
of_row f key has (Some x) r is = ap (λ o. row_key_of (unwrap_or o (f x))) (sym is) ∙ has x

pub row_has_key : (w : World) (key : WorldKey) (r : StoredRow) → row_in w key ≡ Some r → row_key_of r ≡ row_key key
row_has_key w (Instance p) r is = of_unit (unit_at w p.unit) is
  where
    of_unit : (o : Option UnitBook) → option_and_then (λ (b : UnitBook). option_map (λ (x : Job). stored.Instance (instance_row w b p.unit p.number x)) (slice_get b.instances p.number)) o ≡ Some r
        → row_key_of r ≡ row_key (Instance p)
    of_unit None none = absurd (none-some r none)
    of_unit (Some b) found = of_row _ _ (λ x. refl) (slice_get b.instances p.number) r found
row_has_key w _ r is = of_row _ _ (λ x. refl) _ r is
