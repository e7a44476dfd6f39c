-- Moments before which nothing is due: in the world that was looked through, and in a world with changes made.
use Rattle.std.proofs.Common.{◌≡◌, ℕ, zero, suc, ◌+◌, ◌-◌, ◌≤◌, max, Bool, true, false, ◌&&◌, cond, eqb, List, [], ◌∷◌, ◌++◌, length, Option, Some, None, refl, sym, ◌⊎◌, inl, inr, arith}
use Rattle.std.specs.Prelude.{◌==◌, fold, map, nat_lt, slice_set, replicate}
use Rattle.std.specs.List.{AllByRecursion}
use Rattle.std.proofs.lemmas.Bool.Decides.{nat_tests}
use Rattle.std.proofs.lemmas.List.Elements.{All-replicate, recursion_from_All}
use Rattle.sqlite_keyed.proofs.ListLemmas.{all-append, all_weaker}
use Rattle.sched_book.specs.Classes.{with_class}
use Rattle.sched_book.specs.Count.{is_held}
use Rattle.sched_book.specs.Delta.{set_at, with_instance, edited_one, edited, applied}
use Rattle.sched_book.specs.Imports.{new_unit, with_rows}
use Rattle.sched_book.specs.Places.{option_any, is_overdue, overdue, places_in, places_among}
use Rattle.sched_book.specs.Reports.{modify_at, modify_nth}
use Rattle.sched_book.specs.Settle.{fresh}
use Rattle.sched_book.specs.declared.delta.Delta.{Delta}
use Rattle.sched_book.specs.declared.delta.Delta.TheVariants as delta
use Rattle.sched_book.specs.declared.delta.Edit.{Edit}
use Rattle.sched_book.specs.declared.delta.Edit.TheVariants as edit
use Rattle.sched_book.specs.declared.instance.Instance.{Instance}
use Rattle.sched_book.specs.declared.instance.Owner.{Owner}
use Rattle.sched_book.specs.declared.instance.Place.{Place}
use Rattle.sched_book.specs.declared.instance.UnitBook.{UnitBook}
use Rattle.sched_book.specs.declared.rows.Rows.TheVariants as kinds
use Rattle.sched_book.specs.declared.rows.Workunit.{Workunit}
use Rattle.sched_book.specs.declared.world.World.{World}
use Rattle.table_desk.proofs.PlacesNone.{append_none, cons-nil}
use Rattle.table_reading.specs.Deadlines.{lowered_to}
use Rattle.table_reading.proofs.NoneDue.{low_enough, not_due}
use Rattle.sched_tables.specs.DueFrom.{NothingIsDueBefore, raised, lowered_by, lowered}

-- ---- lists

module _ {X : Type 0} (P : X → Type 0) where
  all_set : (xs : List X) (i : ℕ) (x : X) → P x → AllByRecursion P xs → AllByRecursion P (slice_set xs i x)
  all_set [] i x here all = all
  all_set (y ∷ xs) zero x here all = (here, all.1)
  all_set (y ∷ xs) (suc i) x here all = (all.0, all_set xs i x here all.1)

  all_put : (xs : List X) (i : ℕ) (x : X) → P x → AllByRecursion P xs → AllByRecursion P (set_at xs i x)
  all_put xs i x here all = cases (nat_lt i (length xs))
    where
      cases : (b : Bool) → AllByRecursion P (cond b (slice_set xs i x) (xs ++ x ∷ []))
      cases true = all_set xs i x here all
      cases false = all-append P xs (x ∷ []) all (here, tt)

  module _ (f : X → X) (keeps : (x : X) → P x → P (f x)) where
    all_modified_at : (xs : List X) (i : ℕ) → AllByRecursion P xs → AllByRecursion P (modify_at f xs i)
    all_modified_at [] i all = all
    all_modified_at (x ∷ xs) zero all = (keeps x all.0, all.1)
    all_modified_at (x ∷ xs) (suc i) all = (all.0, all_modified_at xs i all.1)

    all_modified : (xs : List X) (n : ℕ) → AllByRecursion P xs → AllByRecursion P (modify_nth f xs n)
    all_modified xs n all = cases (eqb n 0)
      where
        cases : (b : Bool) → AllByRecursion P (cond b xs (modify_at f xs (n - 1)))
        cases true = all
        cases false = all_modified_at xs (n - 1) all

-- ---- that no instance passes a test, as a fact of each instance

abbrev Fails : (Instance → Bool) → Instance → Type 0
Fails test x = test x ≡ false

abbrev HasNone : (Instance → Bool) → UnitBook → Type 0
HasNone test b = AllByRecursion (Fails test) b.instances

none_in : (test : Instance → Bool) (unit number : ℕ) (xs : List Instance) → AllByRecursion (Fails test) xs → places_in unit number test xs ≡ []
none_in test unit number [] all = refl
none_in test unit number (x ∷ xs) all = let here : test x ≡ false = all.0 in rw here (none_in test unit (number + 1) xs all.1)

none_among : (test : Instance → Bool) (from : ℕ) (bs : List UnitBook) → AllByRecursion (HasNone test) bs → places_among from (λ b x. test x) bs ≡ []
none_among test from [] all = refl
none_among test from (b ∷ bs) all = let here : places_in from 0 test b.instances ≡ [] = none_in test from 0 b.instances all.0 in rw here (none_among test (from + 1) bs all.1)

each_fails : (test : Instance → Bool) (unit number : ℕ) (xs : List Instance) → places_in unit number test xs ≡ [] → AllByRecursion (Fails test) xs
each_fails test unit number [] none = tt
each_fails test unit number (x ∷ xs) none = turn (test x) refl none (each_fails test unit (number + 1) xs)
  where
    turn : (b : Bool) → test x ≡ b → cond b (record { unit = unit; number = number } ∷ places_in unit (number + 1) test xs) (places_in unit (number + 1) test xs) ≡ []
        → (places_in unit (number + 1) test xs ≡ [] → AllByRecursion (Fails test) xs) → AllByRecursion (Fails test) (x ∷ xs)
    turn true is none later = absurd (cons-nil none)
    turn false is none later = (is, later none)

each_has_none : (test : Instance → Bool) (from : ℕ) (bs : List UnitBook) → places_among from (λ b x. test x) bs ≡ [] → AllByRecursion (HasNone test) bs
each_has_none test from [] none = tt
each_has_none test from (b ∷ bs) none =
    let parts = append_none (places_in from 0 test b.instances) (places_among (from + 1) (λ b x. test x) bs) none in
    (each_fails test from 0 b.instances parts.0, each_has_none test (from + 1) bs parts.1)

abbrev NoneDue : List UnitBook → ℕ → Type 0
NoneDue bs due_from = AllByRecursion (HasNone (is_overdue due_from)) bs

none_due : (w : World) (due_from : ℕ) → NothingIsDueBefore w due_from → NoneDue w.units due_from
none_due w due_from is = each_has_none (is_overdue due_from) 1 w.units is

is_due_from : (w : World) (due_from : ℕ) → NoneDue w.units due_from → NothingIsDueBefore w due_from
is_due_from w due_from none = none_among (is_overdue due_from) 1 w.units none

-- ---- the moment from which a tick looks

not_sooner : (due_from lower : ℕ) → lower ≤ due_from → (x : Instance) → is_overdue due_from x ≡ false → is_overdue lower x ≡ false
not_sooner due_from lower below x = cases (is_held x) x.owner
  where
    sooner : (deadline : ℕ) → nat_lt deadline due_from ≡ false → nat_lt deadline lower ≡ false
    sooner deadline later = grind (arith, nat_tests)

    cases : (held : Bool) (o : Option Owner) → (held && option_any (λ (o : Owner). nat_lt o.deadline due_from) o) ≡ false → (held && option_any (λ (o : Owner). nat_lt o.deadline lower) o) ≡ false
    cases false o later = refl
    cases true None later = refl
    cases true (Some o) later = sooner o.deadline later

lower_due : (bs : List UnitBook) (due_from lower : ℕ) → lower ≤ due_from → NoneDue bs due_from → NoneDue bs lower
lower_due bs due_from lower below none =
    all_weaker (HasNone (is_overdue due_from)) (HasNone (is_overdue lower)) (λ b. all_weaker (Fails (is_overdue due_from)) (Fails (is_overdue lower)) (not_sooner due_from lower below) b.instances) bs none

-- A lower moment is also one before which nothing is due, and 0 is one in each world.
pub lower_due_from : (w : World) (due_from lower : ℕ) → lower ≤ due_from → NothingIsDueBefore w due_from → NothingIsDueBefore w lower
lower_due_from w due_from lower below is = is_due_from w lower (lower_due w.units due_from lower below (none_due w due_from is))

pub none_before : (w : World) → NothingIsDueBefore w 0
none_before w = is_due_from w 0 (of_each w.units)
  where
    fails : (held : Bool) (o : Option Owner) → (held && option_any (λ (o : Owner). nat_lt o.deadline 0) o) ≡ false
    fails false o = refl
    fails true None = refl
    fails true (Some o) = let below : nat_lt o.deadline 0 ≡ false = grind (arith, nat_tests) in below

    each : (xs : List Instance) → AllByRecursion (Fails (is_overdue 0)) xs
    each [] = tt
    each (x ∷ xs) = (fails (is_held x) x.owner, each xs)

    of_each : (bs : List UnitBook) → NoneDue bs 0
    of_each [] = tt
    of_each (b ∷ bs) = (each b.instances, of_each bs)

-- If nothing is due at a moment, nothing is due before it.
pub raised_is : (w : World) (due_from now : ℕ) (due : List Place) → due ≡ overdue w now → NothingIsDueBefore w due_from → NothingIsDueBefore w (raised due_from now due)
raised_is w due_from now [] none is = cases (max due_from now) (let either : (max due_from now ≤ due_from) ⊎ (max due_from now ≤ now) = grind arith in either)
  where
    cases : (n : ℕ) → (n ≤ due_from) ⊎ (n ≤ now) → NothingIsDueBefore w n
    cases n (inl below) = lower_due_from w due_from n below is
    cases n (inr below) = lower_due_from w now n below (sym none)
raised_is w due_from now (p ∷ ps) some is = let more : (length (p ∷ ps) == 0) ≡ false = grind (arith, nat_tests) in rw more is

-- ---- changes

below_due_from : (due_from : ℕ) (e : Edit) → lowered_by due_from e ≤ due_from
below_due_from due_from (edit.Host number h) = omega arith
below_due_from due_from (edit.Instance p x) = low_enough due_from x
below_due_from due_from (edit.Class unit class) = omega arith

lowered_one : (w : World) (due_from : ℕ) (e : Edit) → NothingIsDueBefore w due_from → NothingIsDueBefore (edited_one w e) (lowered_by due_from e)
lowered_one w due_from (edit.Host number h) is = is
lowered_one w due_from (edit.Instance p x) is =
    let lower = lowered_to due_from x in
    is_due_from (edited_one w (edit.Instance p x)) lower
    (all_modified (HasNone (is_overdue lower)) (with_instance p.number x) (λ b none. all_put (Fails (is_overdue lower)) b.instances p.number x (not_due due_from lower x (omega arith)) none) w.units p.unit
    (lower_due w.units due_from lower (low_enough due_from x) (none_due w due_from is)))
lowered_one w due_from (edit.Class unit class) is =
    is_due_from (edited_one w (edit.Class unit class)) due_from (all_modified (HasNone (is_overdue due_from)) (with_class class) (λ b none. none) w.units unit (none_due w due_from is))

lowered_by_all : (w : World) (due_from : ℕ) (es : List Edit) → NothingIsDueBefore w due_from → NothingIsDueBefore (edited w es) (fold lowered_by due_from es)
lowered_by_all w due_from [] is = is
lowered_by_all w due_from (e ∷ es) is = lowered_by_all (edited_one w e) (lowered_by due_from e) es (lowered_one w due_from e is)

-- no instance of a new workunit is due
fresh_due : (due_from : ℕ) (us : List Workunit) → NoneDue (map new_unit us) due_from
fresh_due due_from [] = tt
fresh_due due_from (u ∷ us) =
    (recursion_from_All (Fails (is_overdue due_from)) (replicate u.target_nresults fresh) (All-replicate (Fails (is_overdue due_from)) u.target_nresults fresh refl), fresh_due due_from us)

-- Lowered by changes, the moment is one for the world after them.
pub lowered_then : (w : World) (due_from : ℕ) (changes : Delta) → NothingIsDueBefore w due_from → NothingIsDueBefore (applied w changes) (lowered due_from changes)
lowered_then w due_from (delta.Rows (kinds.Accounts xs)) is = is
lowered_then w due_from (delta.Rows (kinds.Apps xs)) is = is
lowered_then w due_from (delta.Rows (kinds.Versions xs)) is = is
lowered_then w due_from (delta.Rows (kinds.Workunits xs)) is =
    is_due_from (with_rows w (kinds.Workunits xs)) due_from
    (all-append (HasNone (is_overdue due_from)) w.units (map new_unit xs) (none_due w due_from is) (fresh_due due_from xs))
lowered_then w due_from (delta.Edits edits) is = lowered_by_all w due_from edits is

lowered_below_all : (due_from : ℕ) (es : List Edit) → fold lowered_by due_from es ≤ due_from
lowered_below_all due_from [] = omega arith
lowered_below_all due_from (e ∷ es) = let first = below_due_from due_from e in let later = lowered_below_all (lowered_by due_from e) es in omega arith

lowered_below : (due_from : ℕ) (changes : Delta) → lowered due_from changes ≤ due_from
lowered_below due_from (delta.Rows new) = omega arith
lowered_below due_from (delta.Edits edits) = lowered_below_all due_from edits

-- and for the world before them
pub lowered_before : (w : World) (due_from : ℕ) (changes : Delta) → NothingIsDueBefore w due_from → NothingIsDueBefore w (lowered due_from changes)
lowered_before w due_from changes is = lower_due_from w due_from (lowered due_from changes) (lowered_below due_from changes) is
