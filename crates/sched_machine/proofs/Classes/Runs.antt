-- In every run a class stays, and every owner got its instance with a version of it.
use Rattle.std.proofs.Common.{◌≡◌, inl, inr, ℕ, zero, suc, ◌<◌, [], ◌∷◌, refl, sym, ap, ◌∙◌, subst, arith}
use Rattle.std.specs.Prelude.{option_map}
use Rattle.sched_book.specs.Sound.{Sound}
use Rattle.sched_book.specs.Step.{Step}
use Rattle.sched_book.specs.declared.instance.Owner.{Owner}
use Rattle.sched_book.specs.declared.instance.Place.{Place}
use Rattle.sched_book.specs.declared.instance.UnitBook.{UnitBook}
use Rattle.sched_book.specs.declared.machine.Answered.{Answered}
use Rattle.sched_book.specs.declared.machine.Call.{Call}
use Rattle.sched_book.specs.declared.machine.Call.TheVariants as call
use Rattle.sched_book.specs.declared.world.World.{World}
use Rattle.sched_machine.specs.Classes.{ClassesStay, Follows, IsGiven, OwnersAreOfClassesInRuns}
use Rattle.sched_machine.specs.Runs.{HoldsInRuns, world_after}
use Rattle.sched_machine.proofs.Classes.Owners.{book_of, owners_are_of_classes, waits_not}
use Rattle.sched_machine.proofs.Classes.Kept.{classes_stay_in_step, stay_self, stay_then}
use Rattle.sched_machine.proofs.Runs.Between.{from_first, holds_in_runs}
use Rattle.sched_machine.proofs.Moves.Sound.{step_keeps_sound}

in_step : (w after : World) (c : Call) (now : ℕ) (answer : Answered) → Sound w → Step w c now after answer → ClassesStay w after
in_step w after c now answer sound step = classes_stay_in_step w after c now answer step

pub classes_stay : HoldsInRuns ClassesStay
classes_stay = holds_in_runs ClassesStay stay_self stay_then in_step

-- what was given to an owner stays given with its class, also to an owner with the same host and moment
pub still_given : (w later next : World) (c : Call) (now : ℕ) (p : Place) (m o : Owner) → ClassesStay later next → m.host ≡ o.host → m.sent ≡ o.sent
    → IsGiven w later c now p m → IsGiven w next c now p o
still_given w later next (call.Rpc c r) now p m o stay host sent given =
    let rule = given.book.unit.class_rule in
    let book = book_of next p.unit rule
    (stay p.unit rule (waits_not rule given.version given.follows) (ap (option_map (λ (b : UnitBook). b.unit.class_rule)) given.stands)) in
    record {
      host = sym host ∙ given.host;
      sent = sym sent ∙ given.sent;
      version = given.version;
      runs = given.runs;
      book = book.0;
      stands = book.1;
      follows = subst (λ rule. Follows rule given.version) (sym book.2) given.follows;
    }
still_given w later next (call.Import new) now p m o stay host sent given = given
still_given w later next call.Tick now p m o stay host sent given = given

pub owners_are_of_classes_in_runs : OwnersAreOfClassesInRuns
owners_are_of_classes_in_runs w calls turns sound limits trace zero within p o is = inl (o, is, refl, refl)
owners_are_of_classes_in_runs w [] [] sound limits trace (suc j) within p o is = absurd (omega arith)
owners_are_of_classes_in_runs w [] (t ∷ ts) sound limits trace (suc j) within p o is = absurd trace
owners_are_of_classes_in_runs w (e ∷ es) [] sound limits trace (suc j) within p o is = absurd trace
owners_are_of_classes_in_runs w (e ∷ es) (t ∷ ts) sound limits trace (suc j) within p o is =
    let next : Sound t.1 = step_keeps_sound w t.1 e.0 e.1 t.0 sound limits.0 limits.1 trace.0 in
    elim (owners_are_of_classes_in_runs t.1 es ts next limits.2 trace.1 j (omega arith) p o is) [
      | inr again ↦ inr (suc again.0, (let less : again.0 < j = again.1 in omega arith), again.2)
      | inl before ↦ elim (owners_are_of_classes w t.1 e.0 e.1 t.0 sound trace.0 p before.0 before.1) [
        | inl first ↦ inl (first.0, first.1, first.2 ∙ before.2, first.3 ∙ before.3)
        | inr given ↦ inr (
          0,
          omega arith,
          (e, refl, still_given w t.1 (world_after t.1 ts j) e.0 e.1 p before.0 o (from_first ClassesStay stay_self stay_then in_step t.1 es ts next limits.2 trace.1 j (omega arith)) before.2 before.3 given),
        )
      ]
    ]
