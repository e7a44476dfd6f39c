-- The places of a world's instances are all the places at which the tables that hold it have an instance.
use Rattle.std.proofs.Common.{◌≡◌, ℕ, suc, ◌+◌, ◌≤◌, Bool, true, cond, List, [], ◌∷◌, ◌++◌, filter, slice_get, Option, Some, refl, sym, ap, ap₂, ◌∙◌, inl, inr, arith}
use Rattle.std.specs.Prelude.{AllPairs}
use Rattle.std.specs.List.{AllByRecursion}
use Rattle.std.proofs.lemmas.Bool.Decides.{nat_tests}
use Rattle.std.proofs.lemmas.List.Elements.{recursion_from_All, filter-append}
use Rattle.std.proofs.lemmas.Option.{none-some}
use Rattle.sqlite_trees.specs.Tree.{IsAscending}
use Rattle.sched_book.specs.Places.{nth, is_before, places_in, places_among, places_where, places}
use Rattle.sched_book.specs.declared.instance.Instance.{Instance}
use Rattle.sched_book.specs.declared.instance.Place.{Place}
use Rattle.sched_book.specs.declared.instance.UnitBook.{UnitBook}
use Rattle.sched_book.specs.declared.world.World.{World}
use Rattle.sched_book.proofs.PlacesWhere.{each_among, they_rise}
use Rattle.sched_book.proofs.PlacesOf.{nth-suc}
use Rattle.sched_book.proofs.Rising.{pairs_head, pairs_tail}
use Rattle.table_meaning.specs.Places.{IsBefore, AreAllPlaces}
use Rattle.table_meaning.specs.Worlds.{BatchText, SlotCalls, contents_of}
use Rattle.table_worlds.proofs.KeysListed.{instance_listed}

-- ---- they rise

before : (p q : Place) → is_before p q ≡ true → IsBefore p q
before p q is = grind (arith, nat_tests)

rising : (ps : List Place) → AllPairs (λ p q. is_before p q ≡ true) ps → IsAscending IsBefore ps
rising [] pairs = tt
rising (p ∷ ps) pairs =
    (each ps (recursion_from_All (λ q. is_before p q ≡ true) ps (pairs_head (λ p q. is_before p q ≡ true) p ps pairs)), rising ps (pairs_tail (λ p q. is_before p q ≡ true) p ps pairs))
  where
    each : (qs : List Place) → AllByRecursion (λ q. is_before p q ≡ true) qs → AllByRecursion (IsBefore p) qs
    each [] h = tt
    each (q ∷ qs) h = (before p q h.0, each qs h.1)

module _ (w : World) (calls : SlotCalls) (batches : List ℕ → List ℕ → Option BatchText) where
  pub all_places : AreAllPlaces (contents_of w calls batches) (places w)
  all_places = record {
    rise = rising (places w) (they_rise w (λ b x. true));
    from_one = recursion_from_All (λ p. 1 ≤ p.unit) (places w) (each_among (λ b x. true) (λ p. 1 ≤ p.unit) 1 w.units (λ i n b x is stands pass. omega arith));
    all = λ p row stands. elim (instance_listed w p.unit p.number) [
      | inl none ↦ absurd (none-some row (sym none ∙ stands))
      | inr has ↦ has
    ];
  }

-- ---- those that pass a test

-- a test of places that, at each instance of a workunit, agrees with a test of the instance
filter_in : (keep : Place → Bool) (p : Instance → Bool) (unit number : ℕ) (xs : List Instance)
    → ((i n : ℕ) (x : Instance) → n ≡ i + number → slice_get xs i ≡ Some x → keep (record { unit = unit; number = n }) ≡ p x)
    → filter keep (places_in unit number (λ x. true) xs) ≡ places_in unit number p xs
filter_in keep p unit number [] tells = refl
filter_in keep p unit number (x ∷ xs) tells =
    ap₂ (λ b (l : List Place). cond b (record { unit = unit; number = number } ∷ l) l) (tells 0 number x (omega arith) refl)
    (filter_in keep p unit (number + 1) xs (λ i n y is stands. tells (suc i) n y (omega (arith, is)) stands))

filter_among : (keep : Place → Bool) (p : UnitBook → Instance → Bool) (from : ℕ) (bs : List UnitBook)
    → ((i u n : ℕ) (b : UnitBook) (x : Instance) → u ≡ i + from → slice_get bs i ≡ Some b → slice_get b.instances n ≡ Some x → keep (record { unit = u; number = n }) ≡ p b x)
    → filter keep (places_among from (λ b x. true) bs) ≡ places_among from p bs
filter_among keep p from [] tells = refl
filter_among keep p from (b ∷ bs) tells =
    filter-append keep (places_in from 0 (λ x. true) b.instances) (places_among (from + 1) (λ b x. true) bs)
    ∙ ap₂ (λ (xs ys : List Place). xs ++ ys)
    (filter_in keep (p b) from 0 b.instances (λ i n x is stands. tells 0 from n b x (omega arith) refl (ap (slice_get b.instances) (let same : n ≡ i = omega (arith, is) in same) ∙ stands)))
    (filter_among keep p (from + 1) bs (λ i u n c x is found stands. tells (suc i) u n c x (omega (arith, is)) found stands))

-- the places that a test of places keeps are those of the instances that pass another test
pub places_kept : (w : World) (keep : Place → Bool) (p : UnitBook → Instance → Bool)
    → ((u n : ℕ) (b : UnitBook) (x : Instance) → nth w.units u ≡ Some b → slice_get b.instances n ≡ Some x → keep (record { unit = u; number = n }) ≡ p b x)
    → filter keep (places w) ≡ places_where w p
places_kept w keep p tells =
    filter_among keep p 1 w.units (λ i u n b x is found stands. tells u n b x (ap (nth w.units) (let next : u ≡ suc i = omega (arith, is) in next) ∙ nth-suc w.units i ∙ found) stands)
