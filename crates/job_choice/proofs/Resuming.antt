-- The unsent instances from the place of a candidate on are that candidate and the ones after it.
use Rattle.std.proofs.Common.{◌≡◌, ℕ, ◌+◌, Bool, true, false, cond, not, List, [], ◌∷◌, ◌++◌, sym, refl, ap, ◌∙◌, subst, arith}
use Rattle.std.specs.Prelude.{◌&&◌, is_none, filter, Contains}
use Rattle.std.proofs.lemmas.Bool.{both_ways, not-true, false_from_ne_true}
use Rattle.std.proofs.lemmas.Bool.Decides.{nat_tests}
use Rattle.std.proofs.lemmas.List.Elements.{Contains-append_right, filter-append}
use Rattle.sched_book.specs.Count.{is_open}
use Rattle.sched_book.specs.Offers.{unsent, unsent_in, unsent_among}
use Rattle.sched_book.specs.Places.{status_of, is_before}
use Rattle.sched_book.specs.declared.desk.Candidate.{Candidate}
use Rattle.sched_book.specs.declared.instance.Instance.{Instance}
use Rattle.sched_book.specs.declared.instance.Place.{Place}
use Rattle.sched_book.specs.declared.instance.UnitBook.{UnitBook}
use Rattle.sched_book.specs.declared.rows.Workunit.{Workunit}
use Rattle.sched_book.specs.declared.world.World.{World}
use Rattle.sched_book.proofs.Newest.{front_of, behind, passed_filter}
use Rattle.job_choice.proofs.Candidates.{Before, before_from, before_test, Rising, rising_among}
use Rattle.job_choice.proofs.Greedy.{before_both}

abbrev stands_from : Place → Candidate → Bool
stands_from from c = not (is_before c.place from)

-- the candidates from a later place on are those from an earlier place on that are not before it
module _ (early late : Place) (above : (r : Place) → is_before r late ≡ false → is_before r early ≡ false) where
  later_in : (place : ℕ) (unit : Workunit) (n : ℕ) (xs : List Instance)
      → unsent_in late place unit n xs ≡ filter (stands_from late) (unsent_in early place unit n xs)
  later_in place unit n [] = refl
  later_in place unit n (x ∷ xs) =
      by (is_none x.owner) (is_before (record { unit = place; number = n }) early) (is_before (record { unit = place; number = n }) late) refl refl
      (later_in place unit (n + 1) xs)
    where
      here : Candidate
      here = record { place = record { unit = place; number = n }; unit = unit }

      fewer : List Candidate
      fewer = unsent_in late place unit (n + 1) xs

      more : List Candidate
      more = unsent_in early place unit (n + 1) xs

      by : (s t u : Bool) → is_before here.place early ≡ t → is_before here.place late ≡ u → fewer ≡ filter (stands_from late) more
          → cond (s && not u) (here ∷ fewer) fewer ≡ filter (stands_from late) (cond (s && not t) (here ∷ more) more)
      by false t u e l rest = rest
      by true true true e l rest = rest
      by true true false e l rest = absurd (both_ways (is_before here.place early) (above here.place l) e)
      by true false true e l rest = rest ∙ sym (ap (λ b. cond (not b) (here ∷ filter (stands_from late) more) (filter (stands_from late) more)) l)
      by true false false e l rest =
          ap (λ cs. here ∷ cs) rest ∙ sym (ap (λ b. cond (not b) (here ∷ filter (stands_from late) more) (filter (stands_from late) more)) l)

  later_among : (w : World) (first : ℕ) (bs : List UnitBook) → unsent_among w late first bs ≡ filter (stands_from late) (unsent_among w early first bs)
  later_among w first [] = refl
  later_among w first (b ∷ bs) = by (is_open (status_of w b)) (later_among w (first + 1) bs)
    where
      by : (s : Bool) → unsent_among w late (first + 1) bs ≡ filter (stands_from late) (unsent_among w early (first + 1) bs)
          → cond s (unsent_in late first b.unit 0 b.instances ++ unsent_among w late (first + 1) bs) (unsent_among w late (first + 1) bs)
          ≡ filter (stands_from late) (cond s (unsent_in early first b.unit 0 b.instances ++ unsent_among w early (first + 1) bs) (unsent_among w early (first + 1) bs))
      by false rest = rest
      by true rest =
          ap (λ cs. cs ++ unsent_among w late (first + 1) bs) (later_in first b.unit 0 b.instances)
          ∙ ap (λ cs. filter (stands_from late) (unsent_in early first b.unit 0 b.instances) ++ cs) rest
          ∙ sym (filter-append (stands_from late) (unsent_in early first b.unit 0 b.instances) (unsent_among w early (first + 1) bs))

-- what is unsent from a place on is not before it
not_before : (w : World) (from : Place) (c : Candidate) → Contains (unsent w from) c → is_before c.place from ≡ false
not_before w from c there =
    not-true (is_before c.place from)
    (passed_filter (stands_from from) (unsent w least) c
    (subst (λ cs. Contains cs c) (later_among least from (λ r h. none_below r) w 1 w.units) there))
  where
    least : Place
    least = record { unit = 0; number = 0 }

    none_below : (r : Place) → is_before r least ≡ false
    none_below r = grind (arith, nat_tests)

above_both : (r middle from : Place) → is_before middle from ≡ false → is_before r middle ≡ false → is_before r from ≡ false
above_both r middle from h k = grind (arith, nat_tests)

not_above : (c d : Candidate) → Before c.place d.place → is_before d.place c.place ≡ false
not_above c d before = false_from_ne_true (is_before d.place c.place) (λ h. before_both c.place d.place before (before_from d.place c.place h))

all_behind : (c : Candidate) (cs : List Candidate) → ((d : Candidate) → Contains cs d → Before c.place d.place) → filter (stands_from c.place) cs ≡ cs
all_behind c [] behind_it = refl
all_behind c (d ∷ ds) behind_it =
    ap (λ b. cond (not b) (d ∷ filter (stands_from c.place) ds) (filter (stands_from c.place) ds)) (not_above c d (behind_it d (front_of d ds)))
    ∙ ap (λ cs. d ∷ cs) (all_behind c ds (λ e h. behind_it e (behind d ds e h)))

from_itself : (front : List Candidate) (c : Candidate) (left : List Candidate) → Rising (front ++ c ∷ left)
    → filter (stands_from c.place) (front ++ c ∷ left) ≡ c ∷ left
from_itself [] c left rising =
    ap (λ b. cond (not b) (c ∷ filter (stands_from c.place) left) (filter (stands_from c.place) left)) itself
    ∙ ap (λ cs. c ∷ cs) (all_behind c left rising.0)
  where
    itself : is_before c.place c.place ≡ false
    itself = grind (arith, nat_tests)
from_itself (x ∷ front) c left rising =
    ap (λ b. cond (not b) (x ∷ filter (stands_from c.place) (front ++ c ∷ left)) (filter (stands_from c.place) (front ++ c ∷ left)))
    (before_test x.place c.place (rising.0 c (Contains-append_right front (c ∷ left) c (front_of c left))))
    ∙ from_itself front c left rising.1

pub resumed : (w : World) (from : Place) (front : List Candidate) (c : Candidate) (left : List Candidate) → unsent w from ≡ front ++ c ∷ left
    → unsent w c.place ≡ c ∷ left
resumed w from front c left parts =
    let among : Contains (unsent w from) c = subst (λ cs. Contains cs c) (sym parts) (Contains-append_right front (c ∷ left) c (front_of c left)) in
    later_among from c.place (λ r h. above_both r c.place from (not_before w from c among) h) w 1 w.units
    ∙ ap (filter (stands_from c.place)) parts
    ∙ from_itself front c left (subst Rising parts (rising_among w from 1 w.units))
