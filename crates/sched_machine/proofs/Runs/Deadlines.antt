-- A step changes the deadline of an instance that was given to a host only if it sends the instance again.
use Rattle.std.proofs.Common.{◌≡◌, ◌⊎◌, inl, inr, Option, Some, None, sym, ap, ◌∙◌}
use Rattle.std.specs.Prelude.{option_map, option_and_then, unwrap_or}
use Rattle.std.proofs.lemmas.Bool.{eqb-true}
use Rattle.sched_book.specs.Places.{instance_at, deadline_of, is_owned_by}
use Rattle.sched_book.specs.Step.{deadline_at, host_number}
use Rattle.sched_book.specs.declared.instance.Instance.{Instance}
use Rattle.sched_book.specs.declared.instance.Owner.{Owner}
use Rattle.sched_book.specs.declared.instance.Place.{Place}
use Rattle.sched_book.specs.declared.machine.Call.{Call}
use Rattle.sched_book.specs.declared.machine.Call.TheVariants as call
use Rattle.sched_book.specs.declared.world.World.{World}
use Rattle.sched_machine.specs.Runs.{owner_at, DeadlinesMoveByResends, IsSentAgain}
use Rattle.sched_machine.proofs.OptionParts.{then_by}
use Rattle.sched_machine.proofs.Moves.Moves.{Lasts, IsOf, IsResentBy, step_lasts}

-- an owner stays as it is, with its deadline, or the call sends it the instance again
abbrev StaysOrAgain : World → Call → Place → Option Instance → Option Instance → Type 0
StaysOrAgain w c p i j = (o : Owner) → option_and_then (λ (x : Instance). x.owner) i ≡ Some o
    → (option_and_then (λ (x : Instance). x.owner) j ≡ Some o) ⊎ IsSentAgain w c p o

-- what the call sends again belongs to its host
sent_again : (w : World) (c : Call) (p : Place) (x : Instance) (o : Owner) → IsOf w c x → IsResentBy w c p → x.owner ≡ Some o → IsSentAgain w c p o
sent_again w (call.Rpc c r) p x o own again is = (
  eqb-true o.host (host_number w c)
      (sym (ap (λ q. is_owned_by (host_number w c) (record { owner = q; lapse = x.lapse; report = x.report })) is) ∙ own),
  again,
)
sent_again w (call.Import new) p x o own again is = again
sent_again w call.Tick p x o own again is = again

owner_lasts : (w : World) (c : Call) (p : Place) → Lasts w c p (StaysOrAgain w c p)
owner_lasts w c p = record {
  same = λ i o is. inl is;
  chain = λ i j k first second o is. elim (first o is) [ inl stays ↦ second o stays | inr again ↦ inr again ];
  reported = λ r place x none own later o is. inl is;
  lapses = λ lapse x none own o is. inl is;
  moved = λ f o x owned own again n is. inr (sent_again w c p x n own again is);
}

-- the deadline is the owner's
deadline_is : (w : World) (p : Place) (o : Owner) → owner_at w p ≡ Some o → deadline_at w p ≡ o.deadline
deadline_is w p o is =
    let x = then_by (λ (x : Instance). x.owner) (instance_at w p) o is in
    ap (λ i. unwrap_or (option_map (λ (x : Instance). deadline_of x.owner) i) 0) x.1 ∙ ap deadline_of x.2

pub deadlines_move_by_resends_alone : DeadlinesMoveByResends
deadlines_move_by_resends_alone w after c now answer step p o is =
    elim (step_lasts (StaysOrAgain w c p) (λ o none. absurd cc) (λ o x free n is. (let never : None ≡ Some n = sym free ∙ is in absurd cc))
    w after c now answer p (owner_lasts w c p) step o is) [
      | inl stays ↦ inl (deadline_is after p o stays ∙ sym (deadline_is w p o is))
      | inr again ↦ inr again
    ]
