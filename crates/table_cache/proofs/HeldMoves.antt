-- The places that hosts hold move with the holders of instances.
use Rattle.std.proofs.Common.{◌≡◌, ℕ, Bool, true, false, cond, eqb, not, ◌&&◌, ◌||◌, List, [], Option, Some, None, refl, sym, subst, ap, ◌∙◌, inl, inr, arith}
use mathlib.Core.Bool.{and_comm}
use Rattle.std.specs.Prelude.{◌==◌, option_and_then, option_map, slice_get, unwrap_or}
use Rattle.std.specs.BTreeMap.{get}
use Rattle.std.specs.Ordering.{nat_cmp}
use Rattle.std.proofs.lemmas.Bool.{eqb-true}
use Rattle.std.proofs.lemmas.Bool.Decides.{nat_tests}
use Rattle.sched_book.specs.Count.{is_held}
use Rattle.sched_book.specs.Places.{host_of, held_by, is_held_by, is_same, option_any, passes, unit_at}
use Rattle.sched_book.specs.declared.instance.Instance.{Instance}
use Rattle.sched_book.specs.declared.instance.Place.{Place}
use Rattle.sched_book.specs.declared.instance.UnitBook.{UnitBook}
use Rattle.sched_book.specs.declared.world.World.{World}
use Rattle.table_desk.specs.Sorted.{has, AreSorted}
use Rattle.sched_book.proofs.Recording.{is_same-true}
use Rattle.table_desk.proofs.SortedPlaces.{same_sorted, where_sorted, where_has}
use Rattle.table_cache.specs.Carrying.{with_one}
use Rattle.table_cache.specs.Covering.{jobs_of}
use Rattle.table_cache.specs.Holding.{holder_of, holders_of, with_holder, AreHeldOf, IsHeldOf}
use Rattle.table_cache.specs.RowsRead.{HoldOfEach, HasKept, IsWithout}
use Rattle.table_cache.specs.declared.rows_read.RowsRead.{RowsRead}
use Rattle.table_cache.proofs.RowsKept.{one_number}

-- ---- who holds an instance

-- the same by each host
holds : (host : ℕ) (x : Instance) → is_held_by host x ≡ option_any (λ n. n == host) (holder_of x)
holds host x = go (is_held x)
  where
    go : (b : Bool) → (option_any (λ n. n == host) (host_of x) && b) ≡ option_any (λ n. n == host) (cond b (host_of x) None)
    go true = and_comm (option_any (λ n. n == host) (host_of x)) true
    go false = and_comm (option_any (λ n. n == host) (host_of x)) false

-- ---- the holders, one of them changed

module _ (holders : ℕ → ℕ → Option ℕ) (unit number : ℕ) where
  pub holder_there : (holder : Option ℕ) → with_holder holders unit number holder unit number ≡ holder
  holder_there holder =
      let one : eqb unit unit ≡ true = grind (arith, nat_tests) in
      let same : eqb number number ≡ true = grind (arith, nat_tests) in
      λ i. cond (one i) (cond (same i) holder (holders unit number)) (holders unit number)

  -- the later one counts
  pub holder_over : (first holder : Option ℕ) → with_holder (with_holder holders unit number first) unit number holder ≡ with_holder holders unit number holder
  holder_over first holder = λ i other at. go (holders other at) (eqb unit other) (eqb number at) i
    where
      go : (was : Option ℕ) (c d : Bool) → cond c (cond d holder (cond c (cond d first was) was)) (cond c (cond d first was) was) ≡ cond c (cond d holder was) was
      go was true true = refl
      go was true false = refl
      go was false d = refl

  -- the same one changes nothing
  pub holder_again : (holder : Option ℕ) → holders unit number ≡ holder → holders ≡ with_holder holders unit number holder
  holder_again holder is = λ i other at. go other at (eqb unit other) refl (eqb number at) refl i
    where
      go : (other at : ℕ) (c : Bool) → eqb unit other ≡ c → (d : Bool) → eqb number at ≡ d → holders other at ≡ cond c (cond d holder (holders other at)) (holders other at)
      go other at true one true same = (λ i. holders (sym (eqb-true unit other one) i) (sym (eqb-true number at same) i)) ∙ is
      go other at true one false apart = refl
      go other at false apart d any = refl

-- the holders of jobs with one more
pub holders_with : (jobs : ℕ → ℕ → Option Instance) (unit number : ℕ) (x : Instance) → with_holder (holders_of jobs) unit number (holder_of x) ≡ holders_of (with_one jobs unit number x)
holders_with jobs unit number x = λ i other at. go (jobs other at) (eqb unit other) (eqb number at) i
  where
    go : (was : Option Instance) (c d : Bool) → cond c (cond d (holder_of x) (option_and_then holder_of was)) (option_and_then holder_of was) ≡ option_and_then holder_of (cond c (cond d (Some x) was) was)
    go was true true = refl
    go was true false = refl
    go was false d = refl

-- ---- one place more or less in a list

-- said as one test with the new holder
module _ (place : Place) (old new : List Place) where
  pub one_more : (host : ℕ) → ((p : Place) → has new p ≡ (is_same place p || has old p)) → (p : Place) → has new p ≡ cond (is_same place p) (eqb host host) (has old p)
  one_more host is p = go (is_same place p) (is p)
    where
      go : (b : Bool) → has new p ≡ (b || has old p) → has new p ≡ cond b (eqb host host) (has old p)
      go true there = let self : eqb host host ≡ true = grind (arith, nat_tests) in there ∙ sym self
      go false was = was

  pub one_less : ((p : Place) → has new p ≡ (not (is_same place p) && has old p)) → (p : Place) → has new p ≡ cond (is_same place p) false (has old p)
  one_less is p = go (is_same place p) (is p)
    where
      go : (b : Bool) → has new p ≡ (not b && has old p) → has new p ≡ cond b false (has old p)
      go true none = none
      go false was = was

module _ (holders : ℕ → ℕ → Option ℕ) (place : Place) (holder : Option ℕ) where
  abbrev then : ℕ → ℕ → Option ℕ
  then = with_holder holders place.unit place.number holder

  list_moved : (host : ℕ) (old new : List Place) → IsHeldOf holders host old → AreSorted new → ((p : Place) → has new p ≡ cond (is_same place p) (option_any (λ n. n == host) holder) (has old p)) → IsHeldOf then host new
  list_moved host old new is sorted moved = record { sorted = sorted; each = λ p. moved p ∙ there p (eqb place.unit p.unit) (eqb place.number p.number) (is.each p) }
    where
      there : (p : Place) (c d : Bool) → has old p ≡ option_any (λ n. n == host) (holders p.unit p.number)
          → cond (c && d) (option_any (λ n. n == host) holder) (has old p) ≡ option_any (λ n. n == host) (cond c (cond d holder (holders p.unit p.number)) (holders p.unit p.number))
      there p true true was = refl
      there p true false was = was
      there p false d was = was

  -- the list of a host that neither held the place nor holds it now
  list_stays : (host : ℕ) (places : List Place) → IsHeldOf holders host places → option_any (λ n. n == host) (holders place.unit place.number) ≡ option_any (λ n. n == host) holder → IsHeldOf then host places
  list_stays host places is same = list_moved host places places is is.sorted (λ p. stays p (is_same place p) refl)
    where
      stays : (p : Place) (b : Bool) → is_same place p ≡ b → has places p ≡ cond b (option_any (λ n. n == host) holder) (has places p)
      stays p true one = is.each p ∙ ap (λ (q : Place). option_any (λ n. n == host) (holders q.unit q.number)) (sym (is_same-true place p one)) ∙ same
      stays p false apart = refl

  -- ---- what is known of hosts, if only one of them held the place or holds it now

  module _ (host : ℕ) (touches : (other : ℕ) → eqb host other ≡ false → option_any (λ n. n == other) (holders place.unit place.number) ≡ option_any (λ n. n == other) holder) where
    pub others_held : (before mid : RowsRead ℕ (List Place)) → AreHeldOf holders before → IsWithout nat_cmp before mid host → AreHeldOf then mid
    others_held before mid are without = λ other places is.
        let was = without other places is in
        let apart : eqb host other ≡ false = grind (arith, nat_tests, was.0) in
        list_stays other places (are other places was.1) (touches other apart)

    pub one_held : (before mid after : RowsRead ℕ (List Place)) (old new : List Place) → AreHeldOf holders before → Some old ≡ get nat_cmp before.rows host → IsWithout nat_cmp before mid host
        → (AreSorted old → AreSorted new) → (AreSorted old → (p : Place) → has new p ≡ cond (is_same place p) (option_any (λ n. n == host) holder) (has old p)) → HasKept nat_cmp mid after host new → AreHeldOf then after
    one_held before mid after old new are found without sorts moved kept = λ other places is. elim (kept other places is) [
      | inl it ↦
          let was = are host old (sym found) in
          subst (λ n. IsHeldOf then n places) (one_number host other it.0) (subst (IsHeldOf then host) (sym it.1) (list_moved host old new was (sorts was.sorted) (moved was.sorted)))
      | inr late ↦ others_held before mid are without other places late
    ]

-- a host that leaves its place or enters it is the only one that it touches
pub leaves : (there : Option ℕ) (host : ℕ) → there ≡ Some host → (other : ℕ) → eqb host other ≡ false → option_any (λ n. n == other) there ≡ false
leaves there host is other apart = ap (option_any (λ n. n == other)) is ∙ apart

pub enters : (there : Option ℕ) (host : ℕ) → there ≡ None → (other : ℕ) → eqb host other ≡ false → option_any (λ n. n == other) there ≡ eqb host other
enters there host is other apart = ap (option_any (λ n. n == other)) is ∙ sym apart

-- ---- the places of a world

module _ (w : World) (host : ℕ) where
  passed : (p : Place) → passes w (λ b x. is_held_by host x) p ≡ option_any (λ n. n == host) (holders_of (jobs_of w) p.unit p.number)
  passed p = go (unit_at w p.unit)
    where
      of_job : (o : Option Instance) → unwrap_or (option_map (is_held_by host) o) false ≡ option_any (λ n. n == host) (option_and_then holder_of o)
      of_job None = refl
      of_job (Some x) = holds host x

      go : (o : Option UnitBook) → unwrap_or (option_and_then (λ (b : UnitBook). option_map (is_held_by host) (slice_get b.instances p.number)) o) false
          ≡ option_any (λ n. n == host) (option_and_then holder_of (slice_get (unwrap_or (option_map (λ (b : UnitBook). b.instances) o) []) p.number))
      go None = refl
      go (Some b) = of_job (slice_get b.instances p.number)

  held_are : IsHeldOf (holders_of (jobs_of w)) host (held_by w host)
  held_are = record { sorted = where_sorted w (λ b x. is_held_by host x); each = λ p. where_has w (λ b x. is_held_by host x) p ∙ passed p }

  -- no other list is that of the host
  pub they_are_held : (places : List Place) → IsHeldOf (holders_of (jobs_of w)) host places → places ≡ held_by w host
  they_are_held places is = same_sorted places (held_by w host) is.sorted held_are.sorted (λ p. is.each p ∙ sym (held_are.each p))

pub held_of_world : (w : World) (held : RowsRead ℕ (List Place)) → HoldOfEach nat_cmp (λ host places. places ≡ held_by w host) held → AreHeldOf (holders_of (jobs_of w)) held
held_of_world w held are = λ host places is. subst (IsHeldOf (holders_of (jobs_of w)) host) (sym (are host places is)) (held_are w host)
