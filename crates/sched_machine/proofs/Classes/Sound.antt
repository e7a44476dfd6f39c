-- If before a step no instance of a workunit whose class is still to be taken had an owner, none has one after it.
use Rattle.std.proofs.Common.{◌≡◌, inl, inr, ℕ, suc, [], Option, Some, None, sym, refl, ap, ◌∙◌, subst}
use Rattle.std.specs.Prelude.{option_map, option_and_then, slice_get}
use Rattle.rpc_records.specs.declared.request.Request.{Request}
use Rattle.sched_book.specs.Places.{unit_at, instance_at}
use Rattle.sched_book.specs.Sound.{HasClassOnceGiven, IsSettledUnit, IsSoundUnit, IsSettled, Sound}
use Rattle.sched_book.specs.Step.{Step, after_settlement}
use Rattle.sched_book.specs.declared.instance.Instance.{Instance}
use Rattle.sched_book.specs.declared.instance.Owner.{Owner}
use Rattle.sched_book.specs.declared.instance.Place.{Place}
use Rattle.sched_book.specs.declared.instance.UnitBook.{UnitBook}
use Rattle.sched_book.specs.declared.machine.Answered.{Answered}
use Rattle.sched_book.specs.declared.machine.Call.{Call}
use Rattle.sched_book.specs.declared.machine.Call.TheVariants as call
use Rattle.sched_book.specs.declared.machine.Caller.{Caller}
use Rattle.sched_book.specs.declared.rows.ClassRule.{ClassRule}
use Rattle.sched_book.specs.declared.rows.ClassRule.TheVariants.{Any, OfFirst, Only}
use Rattle.sched_book.specs.declared.world.World.{World}
use Rattle.sched_book.proofs.PlacesOf.{nth-suc}
use Rattle.sched_book.proofs.ByPlace.{all_get, all_nth}
use Rattle.sched_machine.specs.Classes.{rule_at, ClassesStay, Follows, IsGiven, HadOwner}
use Rattle.sched_machine.specs.Runs.{owner_at}
use Rattle.sched_machine.proofs.Classes.Owners.{had, owners_are_of_classes, key, settlement_key}
use Rattle.sched_machine.proofs.Classes.Kept.{same_rule, classes_stay_in_step}
use Rattle.sched_machine.proofs.Held.Said.{row_stays}
use Rattle.sched_machine.proofs.OptionParts.{then_by}
use Rattle.sched_machine.proofs.Rows.Listed.{all_from}

-- nobody owns an instance of a workunit whose class is still to be taken
abbrev pub NoneOwnsTooSoon : World → Type 0
NoneOwnsTooSoon w = (p : Place) (o : Owner) → owner_at w p ≡ Some o → rule_at w p.unit ≡ Some OfFirst → ⊥

-- this holds in a sound world
pub none_too_soon : (w : World) → Sound w → NoneOwnsTooSoon w
none_too_soon w sound p o owned waits =
    let x = then_by (λ (x : Instance). x.owner) (instance_at w p) o owned in
    let b = then_by (λ (b : UnitBook). slice_get b.instances p.number) (unit_at w p.unit) x.0 x.1 in
    let both : Some b.0.unit.class_rule ≡ Some OfFirst = sym (ap (option_map (λ (b : UnitBook). b.unit.class_rule)) b.1) ∙ waits in
    let first : b.0.unit.class_rule ≡ OfFirst = cc in
    let free = (all_nth (IsSoundUnit w.hosts w.apps) w.units p.unit b.0 sound.units b.1).classed first in
    let nobody : x.0.owner ≡ None = all_get (λ (x : Instance). x.owner ≡ None) b.0.instances p.number x.0 free b.2 in
    let never : None ≡ Some o = sym nobody ∙ x.2 in
    absurd cc

-- a settled world in which it holds is sound
pub settled_is_sound : (w : World) → IsSettled w → NoneOwnsTooSoon w → Sound w
settled_is_sound w settled none = record {
  rows = settled.rows;
  units = all_from (IsSoundUnit w.hosts w.apps) w.units (λ i b there.
      let unit = all_get (IsSettledUnit w.hosts w.apps) w.units i b settled.units there in
      record {
        well = unit.well;
        satisfied = unit.satisfied;
        classed = classed i b there;
      });
}
  where
    classed : (i : ℕ) (b : UnitBook) → slice_get w.units i ≡ Some b → HasClassOnceGiven b
    classed i b there first = all_from (λ (x : Instance). x.owner ≡ None) b.instances (λ k x at. cases k x at x.owner refl)
      where
        stands : unit_at w (suc i) ≡ Some b
        stands = nth-suc w.units i ∙ there

        cases : (k : ℕ) (x : Instance) → slice_get b.instances k ≡ Some x → (q : Option Owner) → x.owner ≡ q → q ≡ None
        cases k x at None is = refl
        cases k x at (Some o) is = absurd (none (record { unit = suc i; number = k }) o
            (ap (option_and_then (λ (x : Instance). x.owner)) (ap (option_and_then (λ (b : UnitBook). slice_get b.instances k)) stands ∙ at) ∙ is)
            (ap (option_map (λ (b : UnitBook). b.unit.class_rule)) stands ∙ ap Some first))

-- if classes stayed, the owner of an instance in a sound world does not own it too soon later
owned_before : (w v : World) → Sound w → ClassesStay w v → (p : Place) (o : Owner) → HadOwner w p o → rule_at v p.unit ≡ Some OfFirst → ⊥
owned_before w v sound stay p o before waits =
    let x = then_by (λ (x : Instance). x.owner) (instance_at w p) before.0 before.1 in
    let b = then_by (λ (b : UnitBook). slice_get b.instances p.number) (unit_at w p.unit) x.0 x.1 in
    by_rule b.0.unit.class_rule (ap (option_map (λ (b : UnitBook). b.unit.class_rule)) b.1)
  where
    by_rule : (rule : ClassRule) → rule_at w p.unit ≡ Some rule → ⊥
    by_rule Any is = let never : Some Any ≡ Some OfFirst = sym (stay p.unit Any refl is) ∙ waits in absurd cc
    by_rule OfFirst is = none_too_soon w sound p before.0 before.1 is
    by_rule (Only class) is = let never : Some (Only class) ≡ Some OfFirst = sym (stay p.unit (Only class) refl is) ∙ waits in absurd cc

-- the owner to whom a call gives it does not either
given_now : (w v : World) (c : Call) (now : ℕ) (p : Place) (o : Owner) → IsGiven w v c now p o → rule_at v p.unit ≡ Some OfFirst → ⊥
given_now w v (call.Rpc c r) now p o given waits =
    let both : Some given.book.unit.class_rule ≡ Some OfFirst = sym (ap (option_map (λ (b : UnitBook). b.unit.class_rule)) given.stands) ∙ waits in
    let first : given.book.unit.class_rule ≡ OfFirst = cc in
    subst (λ rule. Follows rule given.version) first given.follows
given_now w v (call.Import new) now p o given waits = given
given_now w v call.Tick now p o given waits = given

-- a call up to its settlement gives nobody an instance
pub settlement_not_too_soon : (w : World) (c : Caller) (r : Request) (now : ℕ) → Sound w → NoneOwnsTooSoon (after_settlement w c r now)
settlement_not_too_soon w c r now sound p o owned =
    owned_before w (after_settlement w c r now) sound
    (λ n rule known is. same_rule w (after_settlement w c r now) n (row_stays w c r now [] n) ∙ is) p o
    (had w p o (sym (settlement_key w c r now p) ∙ ap (option_map key) owned))

-- a step of a sound world that leaves a settled world leaves a sound one
pub step_is_sound : (w after : World) (c : Call) (now : ℕ) (answer : Answered) → Sound w → Step w c now after answer → IsSettled after → Sound after
step_is_sound w after c now answer sound step settled =
    settled_is_sound after settled (λ p o owned waits. elim (owners_are_of_classes w after c now answer sound step p o owned) [
      | inl before ↦ owned_before w after sound (classes_stay_in_step w after c now answer step) p o before waits
      | inr given ↦ given_now w after c now p o given waits
    ])
