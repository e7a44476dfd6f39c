-- An instance that lapses late, as a change.
use Rattle.std.proofs.Common.{◌≡◌, ℕ, zero, suc, ◌<◌, Bool, true, false, cond, eqb, ltb, List, [], ◌∷◌, ◌++◌, Option, Some, None, sym, refl, ap, ◌∙◌, subst, arith}
use borrow.Author.Tests.{ltb-true}
use Rattle.std.proofs.lemmas.List.Elements.{All-head, All-weaker}
use Rattle.std.specs.Prelude.{◌&&◌, ◌||◌, All, AllPairs, is_none, is_some, option_map, option_and_then, unwrap_or, slice_get}
use Rattle.sched_book.specs.Count.{is_held}
use Rattle.sched_book.specs.Places.{unit_at, instance_at, passes, overdue, is_overdue, is_before, is_same}
use Rattle.sched_book.proofs.PlacesWhere.{each_passes, they_rise}
use Rattle.sched_book.proofs.Recording.{instance_at-with_changed, is_same-true, passes-is}
use Rattle.sched_book.specs.Desk.{instances_at}
use Rattle.sched_book.specs.Delta.{edited_one, edited, EditFits}
use Rattle.sched_book.specs.Reports.{with_changed}
use Rattle.sched_book.specs.Lost.{with_lapse}
use Rattle.sched_book.specs.declared.delta.Edit.{Edit}
use Rattle.sched_book.specs.declared.delta.Edit.TheVariants as edit
use Rattle.sched_book.specs.declared.instance.Instance.{Instance}
use Rattle.sched_book.specs.declared.instance.Lapse.TheVariants.{Late}
use Rattle.sched_book.specs.declared.instance.Owner.{Owner}
use Rattle.sched_book.specs.declared.instance.Place.{Place}
use Rattle.sched_book.specs.declared.instance.UnitBook.{UnitBook}
use Rattle.sched_book.specs.declared.world.World.{World}
use Rattle.quorum_credit.specs.Late.{late_in, IsHeldAt, AreHeldInTurn}
use Rattle.quorum_credit.specs.Limited.{IsLimited, FitWithin}
use Rattle.quorum_credit.proofs.Recorded.{with_changed-is}
use Rattle.quorum_credit.proofs.FitReports.{done_fits, fit_more}

-- the instance at a place
record Stands (w : World) (p : Place) (x : Instance) : Type 0 where
  book : UnitBook
  unit : unit_at w p.unit ≡ Some book
  number : slice_get book.instances p.number ≡ Some x

standing : (w : World) (p : Place) (y : Instance) → Some y ≡ late_in (instances_at w p.unit) p.number
    → (x : Instance) × Stands w p x × (is_held x ≡ true) × (with_lapse Late x ≡ y)
standing w p y puts = at_unit (unit_at w p.unit) refl (sym puts)
  where
    at_number : (b : UnitBook) → unit_at w p.unit ≡ Some b → (q : Option Instance) → slice_get b.instances p.number ≡ q
        → (t : Bool) → unwrap_or (option_map is_held q) false ≡ t → cond t (option_map (with_lapse Late) q) None ≡ Some y
        → (x : Instance) × Stands w p x × (is_held x ≡ true) × (with_lapse Late x ≡ y)
    at_number b stands q is false held puts = absurd cc
    at_number b stands None is true held puts = absurd cc
    at_number b stands (Some x) is true held puts =
        (x, record { book = b; unit = stands; number = is }, held, (let value : with_lapse Late x ≡ y = cc in value))

    at_unit : (o : Option UnitBook) → unit_at w p.unit ≡ o
        → late_in (unwrap_or (option_map (λ (b : UnitBook). b.instances) o) []) p.number ≡ Some y
        → (x : Instance) × Stands w p x × (is_held x ≡ true) × (with_lapse Late x ≡ y)
    at_unit None stands puts = absurd cc
    at_unit (Some b) stands puts = at_number b stands (slice_get b.instances p.number) refl _ refl puts

-- what a host holds was given to it
never_owned : (o : Option Owner) (b c : Bool) → (is_some o && b && c) ≡ true → o ≡ None → ⊥
never_owned None b c held none = absurd cc
never_owned (Some o) b c held none = absurd cc

pub late_is : (w : World) (p : Place) (y : Instance) → Some y ≡ late_in (instances_at w p.unit) p.number
    → edited_one w (edit.Instance p y) ≡ with_changed (with_lapse Late) w p
late_is w p y puts =
    let found = standing w p y puts in
    ap (λ z. edited_one w (edit.Instance p z)) (sym found.3)
    ∙ sym (with_changed-is (with_lapse Late) w p found.1.book found.0 found.1.unit found.1.number)

late_fits_one : (w : World) (p : Place) (y : Instance) → Some y ≡ late_in (instances_at w p.unit) p.number
    → IsLimited w → EditFits w (edit.Instance p y) × IsLimited (edited_one w (edit.Instance p y))
late_fits_one w p y puts limited =
    let found = standing w p y puts in
    let here : instance_at w p ≡ Some found.0 =
    ap (option_and_then (λ (u : UnitBook). slice_get u.instances p.number)) found.1.unit ∙ found.1.number in
    let before = limited.each p found.0 here in
    subst (λ z. EditFits w (edit.Instance p z) × IsLimited (edited_one w (edit.Instance p z))) found.3
    (done_fits (with_lapse Late) w p found.1.book found.0 limited found.1.unit found.1.number (
      before.0,
      (λ none. absurd (never_owned found.0.owner (is_none found.0.report) (is_none found.0.lapse) found.2 none)),
      record {
        sent = before.2.sent;
        deadline = before.2.deadline;
        output = before.2.output;
        place = before.2.place;
      },
    ))

pub late_fits : (entry w : World) (cs more : List Edit) (p : Place) (y : Instance) → w ≡ edited entry cs
    → Some y ≡ late_in (instances_at w p.unit) p.number → more ≡ cs ++ edit.Instance p y ∷ [] → FitWithin entry cs → FitWithin entry more
late_fits entry w cs more p y here puts pushed =
    fit_more entry cs more (edit.Instance p y) pushed
    (late_fits_one (edited entry cs) p y (puts ∙ ap (λ v. late_in (instances_at v p.unit) p.number) here))

-- an instance that a host holds can lapse
pub held_lapses : (w : World) (p : Place) → IsHeldAt w p → late_in (instances_at w p.unit) p.number ≡ None → ⊥
held_lapses w p held = at_unit (unit_at w p.unit) held
  where
    at_number : (q : Option Instance) (t : Bool) → unwrap_or (option_map is_held q) false ≡ t → t ≡ true → cond t (option_map (with_lapse Late) q) None ≡ None → ⊥
    at_number None false is held none = absurd cc
    at_number None true is held none = absurd cc
    at_number (Some x) false is held none = absurd cc
    at_number (Some x) true is held none = absurd cc

    at_unit : (o : Option UnitBook) → unwrap_or (option_and_then (λ (b : UnitBook). option_map is_held (slice_get b.instances p.number)) o) false ≡ true
        → late_in (unwrap_or (option_map (λ (b : UnitBook). b.instances) o) []) p.number ≡ None → ⊥
    at_unit None held none = absurd cc
    at_unit (Some b) held none = at_number (slice_get b.instances p.number) _ refl held none

never_before : (p : Place) → is_before p p ≡ true → ⊥
never_before p rises = either (ltb p.unit p.unit) (ltb p.number p.number) (eqb p.unit p.unit) refl refl rises
  where
    either : (a b c : Bool) → ltb p.unit p.unit ≡ a → ltb p.number p.number ≡ b → (a || (c && b)) ≡ true → ⊥
    either true b c less more rises = let less_unit : p.unit < p.unit = ltb-true p.unit p.unit less in absurd (omega arith)
    either false true c less more rises = let less_number : p.number < p.number = ltb-true p.number p.number more in absurd (omega arith)
    either false false true less more rises = absurd cc
    either false false false less more rises = absurd cc

-- places in order at which hosts hold instances: each is held in its turn
stays_held : (w : World) (p q : Place) → is_before p q ≡ true → IsHeldAt w q → IsHeldAt (with_changed (with_lapse Late) w p) q
stays_held w p q rises held =
    passes-is (with_changed (with_lapse Late) w p) is_held q
    ∙ ap (λ o. unwrap_or (option_map is_held o) false)
    (instance_at-with_changed (with_lapse Late) w p q ∙ ap (λ (b : Bool). cond b (option_map (with_lapse Late) (instance_at w q)) (instance_at w q)) (apart (is_same p q) refl))
    ∙ sym (passes-is w is_held q) ∙ held
  where
    apart : (b : Bool) → is_same p q ≡ b → b ≡ false
    apart false is = refl
    apart true is = absurd (never_before q (ap (λ r. is_before r q) (sym (is_same-true p q is)) ∙ rises))

in_turn : (w : World) (ps : List Place) → All (IsHeldAt w) ps → AllPairs (λ p q. is_before p q ≡ true) ps → AreHeldInTurn w ps
in_turn w [] held rises = tt
in_turn w (p ∷ ps) held rises = (
  All-head (IsHeldAt w) p ps held,
  in_turn (with_changed (with_lapse Late) w p) ps
      (λ k d within. stays_held w p _ (rises 0 (suc k) d (omega arith) (omega arith)) (held (suc k) d (omega arith)))
      (λ i j d less within. rises (suc i) (suc j) d (omega arith) (omega arith)),
)

-- what is overdue is held in turn
pub overdue_in_turn : (w : World) (now : ℕ) → AreHeldInTurn w (overdue w now)
overdue_in_turn w now = in_turn w (overdue w now)
    (All-weaker (λ p. passes w (λ b x. is_overdue now x) p ≡ true) (IsHeldAt w) held (overdue w now) (each_passes w (λ b x. is_overdue now x)))
    (they_rise w (λ b x. is_overdue now x))
  where
    first : (a b : Bool) → (a && b) ≡ true → a ≡ true
    first true b is = refl
    first false b is = is

    at : (o : Option Instance) → unwrap_or (option_map (is_overdue now) o) false ≡ true → unwrap_or (option_map is_held o) false ≡ true
    at None is = is
    at (Some x) is = first (is_held x) _ is

    held : (p : Place) → passes w (λ b x. is_overdue now x) p ≡ true → IsHeldAt w p
    held p over = passes-is w is_held p ∙ at (instance_at w p) (sym (passes-is w (is_overdue now) p) ∙ over)
