-- What workunits need fits, if their numbers are within limits.
use Rattle.std.proofs.Common.{◌≡◌, ℕ, zero, suc, ◌+◌, ◌<◌, ◌≤◌, Bool, true, false, cond, eqb, List, [], ◌∷◌, ◌++◌, length, Option, Some, None, sym, refl, ap, ◌∙◌, subst, length-append, arith, IfSome}
use Rattle.std.specs.Prelude.{◌||◌, nat_lt, IsTrue, is_some, option_map, unwrap_or}
use Rattle.std.proofs.lemmas.Bool.{eq-eqb, ne_eqb}
use borrow.Author.Tests.{ltb-false}
use Rattle.sched_book.specs.Count.{canonical, errors, good, need, status, is_open}
use Rattle.sched_book.specs.Places.{unit_at, agreement_of, book_status}
use Rattle.sched_book.specs.Limits.{most_instances, IsInstanceInLimits}
use Rattle.sched_book.specs.Settle.{fresh}
use Rattle.sched_book.specs.UnitChanges.{book_after}
use Rattle.sched_book.specs.Delta.{edited_one, edited, EditsFit}
use Rattle.sched_book.specs.declared.delta.Edit.{Edit}
use Rattle.sched_book.specs.declared.delta.Edit.TheVariants as edit
use Rattle.sched_book.specs.declared.instance.Instance.{Instance}
use Rattle.sched_book.specs.declared.instance.Status.TheVariants.{Open, Done, FailedErrors, FailedSuccess, FailedTotal}
use Rattle.sched_book.specs.declared.instance.UnitBook.{UnitBook}
use Rattle.sched_book.specs.declared.rows.Agreement.{Agreement}
use Rattle.sched_book.specs.declared.rows.Workunit.{Workunit}
use Rattle.sched_book.specs.declared.world.World.{World}
use Rattle.sched_book.proofs.UnitChanges.{unit_at-edited}
use Rattle.quorum_credit.specs.Growing.{fresh_changes, growth_of, growth, all_growth}
use Rattle.quorum_credit.specs.Settling.{AreUnitsInLimits}
use Rattle.call_working_set.specs.WorkingSets.{AreRising, is_among}
use Rattle.quorum_credit.proofs.Grown.{one_behind, put_behind, above_others, growth_elsewhere}

-- changes that fit after others that do
pub fits_then : (v : World) (cs ds : List Edit) → EditsFit v cs → EditsFit (edited v cs) ds → EditsFit v (cs ++ ds)
fits_then v [] ds front behind = behind
fits_then v (c ∷ cs) ds front behind = (front.0, fits_then (edited_one v c) cs ds front.1 behind)

-- an instance that was given to nobody is within limits
pub fresh_in_limits : IsInstanceInLimits fresh
fresh_in_limits = record { sent = tt; deadline = tt; output = tt; place = tt }

-- `many` instances fit after a workunit's own, if there are at most a hundred in all
fresh_fits : (v : World) (unit number many : ℕ) (b : UnitBook) → unit_at v unit ≡ Some b → number ≡ length b.instances → number + many ≤ most_instances
    → EditsFit v (fresh_changes unit number many)
fresh_fits v unit number zero b stands last few = tt
fresh_fits v unit number (suc many) b stands last few =
    let c = edit.Instance (record { unit = unit; number = number }) fresh in (
      (
        subst (λ (o : Option UnitBook). IsTrue (is_some o)) (sym stands) refl,
        (let low : number < most_instances = omega arith in low),
        subst (λ (o : Option UnitBook). IfSome o (λ (u : UnitBook). number ≤ length u.instances)) (sym stands)
            (let low : number ≤ length b.instances = omega arith in low),
        tt,
        (λ none. (refl, refl)),
        fresh_in_limits,
      ),
      fresh_fits (edited_one v c) unit (number + 1) many (one_behind b)
          (unit_at-edited v unit (c ∷ [])
          ∙ ap (λ o. book_after unit o (c ∷ [])) stands
          ∙ put_behind unit number b last)
          (let long : length (b.instances ++ fresh ∷ []) ≡ length b.instances + 1 = length-append b.instances (fresh ∷ []) in
          omega arith)
          (omega arith),
    )

-- an open workunit has, with what it needs, at most as many instances as it may
pub open_total : (a : Agreement) (u : Workunit) (xs : List Instance) → is_open (status a u xs) ≡ true → length xs + need u xs ≤ u.max_total_results
open_total a u xs is_it =
    ltb-false u.max_total_results (length xs + need u xs)
    (cases (is_some (canonical a u xs)) (nat_lt u.max_error_results (errors xs)) (nat_lt u.max_success_results (length (good xs)))
    (nat_lt u.max_total_results (length xs + need u xs)) is_it)
  where
    cases : (done errors successes total : Bool)
        → is_open (cond done Done (cond errors FailedErrors (cond successes FailedSuccess (cond total FailedTotal Open)))) ≡ true → total ≡ false
    cases true errors successes total is_it = absurd cc
    cases false true successes total is_it = absurd cc
    cases false false true total is_it = absurd cc
    cases false false false true is_it = absurd cc
    cases false false false false is_it = refl

module _ (w : World) (limits : AreUnitsInLimits w) where
  growth_fits : (v : World) (unit : ℕ) → unit_at v unit ≡ unit_at w unit → EditsFit v (growth w unit)
  growth_fits v unit same = cases (unit_at w unit) refl same
    where
      open_or_not : (b : UnitBook) → unit_at w unit ≡ Some b → unit_at v unit ≡ Some b
          → (t : Bool) → is_open (book_status w.apps b) ≡ t → EditsFit v (fresh_changes unit (length b.instances) (cond t (need b.unit b.instances) 0))
      open_or_not b here stands false is_it = tt
      open_or_not b here stands true is_it =
          let total : length b.instances + need b.unit b.instances ≤ b.unit.max_total_results = open_total (agreement_of w b) b.unit b.instances is_it in
          let most : b.unit.max_total_results ≤ most_instances = (limits unit b here).total.1 in
          fresh_fits v unit (length b.instances) (need b.unit b.instances) b stands refl (omega arith)

      cases : (o : Option UnitBook) → unit_at w unit ≡ o → unit_at v unit ≡ o → EditsFit v (unwrap_or (option_map (growth_of w unit) o) [])
      cases None here stands = tt
      cases (Some b) here stands = open_or_not b here stands (is_open (book_status w.apps b)) refl

  -- the instances of several workunits fit, if none of these was changed
  growth_all_fits : (v : World) (units : List ℕ) → AreRising units
      → ((n : ℕ) → is_among units n ≡ true → unit_at v n ≡ unit_at w n) → EditsFit v (all_growth w units)
  growth_all_fits v [] rising same = tt
  growth_all_fits v (unit ∷ units) rising same =
      fits_then v (growth w unit) (all_growth w units)
      (growth_fits v unit (same unit (ap (λ t. t || is_among units unit) (eq-eqb unit unit refl))))
      (growth_all_fits (edited v (growth w unit)) units rising.1
      (λ n among.
      unit_at-edited v n (growth w unit)
      ∙ growth_elsewhere w n unit (unit_at v n)
      (ne_eqb unit n (λ equal. let never : is_among units n ≡ false = above_others n unit units equal rising.0 in absurd cc))
      ∙ same n (last_true (eqb unit n) (is_among units n) among)))
    where
      last_true : (a b : Bool) → b ≡ true → (a || b) ≡ true
      last_true true b is = refl
      last_true false b is = is

-- the new instances of these workunits fit
pub all_fit : (w : World) (units : List ℕ) → AreRising units → AreUnitsInLimits w → EditsFit w (all_growth w units)
all_fit w units rising limits = growth_all_fits w limits w units rising (λ n among. refl)
