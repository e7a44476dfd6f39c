-- Which versions may do a workunit stays through a step, unless its class is still to be taken.
use Rattle.std.proofs.Common.{◌≡◌, ℕ, Bool, true, false, cond, eqb, List, Option, Some, None, sym, refl, ap, ◌∙◌, subst}
use Rattle.std.specs.Prelude.{map, option_map}
use Rattle.sched_book.specs.Classes.{rule_after, with_class, is_of_first}
use Rattle.sched_book.specs.Desk.{workunit_at}
use Rattle.sched_book.specs.Imports.{new_unit, with_rows}
use Rattle.sched_book.specs.Places.{unit_at}
use Rattle.sched_book.specs.Settle.{settled}
use Rattle.sched_book.specs.Step.{Step, after_settlement, class_granted, classed, granted, host_at_entry, host_number, lapsed}
use Rattle.sched_book.specs.declared.instance.Place.{Place}
use Rattle.sched_book.specs.declared.instance.UnitBook.{UnitBook}
use Rattle.sched_book.specs.declared.machine.Answered.{Answered}
use Rattle.sched_book.specs.declared.machine.Call.{Call}
use Rattle.sched_book.specs.declared.rows.ClassRule.{ClassRule}
use Rattle.sched_book.specs.declared.rows.ClassRule.TheVariants.{Any, OfFirst, Only}
use Rattle.sched_book.specs.declared.rows.HostRow.{HostRow}
use Rattle.sched_book.specs.declared.rows.Rows.{Rows}
use Rattle.sched_book.specs.declared.rows.Rows.TheVariants as rows
use Rattle.sched_book.specs.declared.rows.Workunit.{Workunit}
use Rattle.sched_book.specs.declared.world.World.{World}
use Rattle.sched_book.proofs.PlaceChanges.{lapses_are_by_place}
use Rattle.sched_book.proofs.PlacesOf.{nth-modify_nth, nth-front}
use Rattle.sched_machine.specs.Classes.{rule_at, ClassesStay}
use Rattle.sched_machine.proofs.Classes.Left.{classes_keep}
use Rattle.sched_machine.proofs.Alike.Units.{row_at, rows_grown}
use Rattle.sched_machine.proofs.Held.Said.{row_stays}
use Rattle.sched_machine.proofs.OptionParts.{mapped_by}
use Rattle.sched_machine.proofs.Moves.Cases.{by_call}

-- a rule follows from the row
pub same_rule : (w v : World) (n : ℕ) → workunit_at v n ≡ workunit_at w n → rule_at v n ≡ rule_at w n
same_rule w v n same = read (unit_at v n) ∙ ap (option_map (λ (u : Workunit). u.class_rule)) same ∙ sym (read (unit_at w n))
  where
    read : (o : Option UnitBook) → option_map (λ (b : UnitBook). b.unit.class_rule) o
        ≡ option_map (λ (u : Workunit). u.class_rule) (option_map (λ (b : UnitBook). b.unit) o)
    read None = refl
    read (Some b) = refl

-- a class that is granted is taken only by its workunit
pub rule_granted : (w : World) (unit : ℕ) (class : List ℕ) (n : ℕ)
    → rule_at (class_granted w unit class) n ≡ cond (eqb unit n) (option_map (λ rule. rule_after rule class) (rule_at w n)) (rule_at w n)
rule_granted w unit class n =
    ap (option_map (λ (b : UnitBook). b.unit.class_rule)) (nth-modify_nth (with_class class) w.units unit n) ∙ cases (eqb unit n) (unit_at w n)
  where
    cases : (t : Bool) (o : Option UnitBook) → option_map (λ (b : UnitBook). b.unit.class_rule) (cond t (option_map (with_class class) o) o)
        ≡ cond t (option_map (λ rule. rule_after rule class) (option_map (λ (b : UnitBook). b.unit.class_rule) o))
        (option_map (λ (b : UnitBook). b.unit.class_rule) o)
    cases true None = refl
    cases true (Some b) = refl
    cases false o = refl

-- only a workunit whose class is still to be taken takes one
rule_kept : (rule : ClassRule) (class : List ℕ) → is_of_first rule ≡ false → rule_after rule class ≡ rule
rule_kept Any class known = refl
rule_kept OfFirst class known = absurd cc
rule_kept (Only own) class known = refl

pub stay_self : (w : World) → ClassesStay w w
stay_self w n rule known is = is

pub stay_then : (u v w : World) → ClassesStay u v → ClassesStay v w → ClassesStay u w
stay_then u v w first second n rule known is = second n rule known (first n rule known is)

granted_stays : (w : World) (unit : ℕ) (class : List ℕ) → ClassesStay w (class_granted w unit class)
granted_stays w unit class n rule known is = rule_granted w unit class n ∙ cases (eqb unit n)
  where
    cases : (t : Bool) → cond t (option_map (λ rule. rule_after rule class) (rule_at w n)) (rule_at w n) ≡ Some rule
    cases true = ap (option_map (λ rule. rule_after rule class)) is ∙ ap Some (rule_kept rule class known)
    cases false = is

pub classed_stay : (entry : World) (h : HostRow) (jobs : List Place) (w : World) → ClassesStay w (classed entry h w jobs)
classed_stay entry h jobs w =
    classes_keep (ClassesStay w) entry h (λ u unit v is stay. stay_then w u (class_granted u unit v.class) stay (granted_stays u unit v.class)) jobs w (stay_self w)

-- an import keeps the rows
rows_stay : (w : World) (new : Rows) → ClassesStay w (with_rows w new)
rows_stay w (rows.Accounts xs) n rule known is = is
rows_stay w (rows.Apps xs) n rule known is = is
rows_stay w (rows.Versions xs) n rule known is = is
rows_stay w (rows.Workunits us) n rule known is =
    let b = mapped_by (λ (b : UnitBook). b.unit.class_rule) (unit_at w n) rule is in
    ap (option_map (λ (b : UnitBook). b.unit.class_rule)) (nth-front w.units (map new_unit us) n b.0 b.1) ∙ ap Some b.2

-- each step
pub classes_stay_in_step : (w after : World) (c : Call) (now : ℕ) (answer : Answered) → Step w c now after answer → ClassesStay w after
classes_stay_in_step w after c now answer step =
    by_call w after now (λ c answer. ClassesStay w after)
    (λ c r reply step.
    let given : World = granted (after_settlement w c r now) (host_number w c) now step.jobs in
    subst (ClassesStay w) (sym step.left) (λ n rule known is.
    classed_stay w (host_at_entry w c r) step.jobs given n rule known (same_rule w given n (row_stays w c r now step.jobs n) ∙ is)))
    (λ new count step. subst (ClassesStay w) (sym step.left) (rows_stay w new))
    (λ count step.
    let left : World = lapsed w now in
    subst (ClassesStay w) (sym step.left) (λ n rule known is.
    same_rule w (settled w left) n (row_at w (settled w left) (rows_grown left.apps left.units ∙ (lapses_are_by_place w now).rest.units) n) ∙ is))
    c answer step
