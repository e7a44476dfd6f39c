-- What holds of the calls between two worlds of a run.
use Rattle.std.proofs.Common.{◌≡◌, ◌⊎◌, inl, inr, ℕ, zero, suc, ◌<◌, ◌≤◌, true, List, [], ◌∷◌, length, Some, None, sym, refl, ap, ◌∙◌, subst, arith}
use Rattle.rpc_records.specs.declared.request.Request.{Request}
use Rattle.sched_book.specs.Sound.{Sound}
use Rattle.sched_book.specs.Step.{Step, Trace, after_settlement, deadline_at, granted, host_number, host_at_entry}
use Rattle.sched_book.specs.declared.instance.Owner.{Owner}
use Rattle.sched_book.specs.declared.instance.Place.{Place}
use Rattle.sched_book.specs.declared.machine.Answered.{Answered}
use Rattle.sched_book.specs.declared.machine.Answered.TheVariants as answered
use Rattle.sched_book.specs.declared.machine.Call.{Call}
use Rattle.sched_book.specs.declared.machine.Call.TheVariants as call
use Rattle.sched_book.specs.declared.machine.Caller.{Caller}
use Rattle.sched_book.specs.declared.settings.Settings.{Settings}
use Rattle.sched_book.specs.declared.world.World.{World}
use Rattle.sched_book.proofs.PlaceChanges.{lapses_are_by_place, grants_are_by_place}
use Rattle.sched_book.proofs.LeftByImports.{settings_with_rows}
use Rattle.sched_machine.specs.Runs.{owner_at, world_after, IsSentAgain}
use Rattle.sched_machine.specs.Stretches.{IsInSightAfter, IsSentAgainAfter, DeadlinesMoveByResendsInRuns, HoldsWhatIsListedOrNamedInRuns}
use Rattle.sched_machine.proofs.Classes.Left.{classed_like}
use Rattle.sched_machine.proofs.Held.Named as named
use Rattle.sched_machine.proofs.Runs.Deadlines.{deadlines_move_by_resends_alone}
use Rattle.sched_machine.proofs.Runs.Lasting.{owners_stay_in_step}
use Rattle.sched_machine.proofs.Moves.Cases.{by_call}
use Rattle.sched_machine.proofs.Moves.Moves.{left_alone}
use Rattle.sched_machine.proofs.Moves.Sound.{step_keeps_sound}

-- ---- deadlines

-- what holds of an owner holds of one with the same host
same_host : (w : World) (c : Call) (p : Place) (n o : Owner) → n.host ≡ o.host → IsSentAgain w c p n → IsSentAgain w c p o
same_host w (call.Rpc c r) p n o same again = (sym same ∙ again.0, again.1)
same_host w (call.Import new) p n o same again = again
same_host w call.Tick p n o same again = again

-- up to a world of a run the deadline stays, or an earlier call sends the job again
abbrev MovesBefore : World → List (Call × ℕ) → List (Answered × World) → ℕ → ℕ → Place → Owner → Type 0
MovesBefore w calls turns i j p o =
    (deadline_at (world_after w turns j) p ≡ deadline_at (world_after w turns i) p)
    ⊎ ((n : ℕ) × (i ≤ n) × (n < j) × IsSentAgainAfter w calls turns n p o)

-- one more call at the beginning
one_before : (w : World) (calls : List (Call × ℕ)) (turns : List (Answered × World)) (e : Call × ℕ) (t : Answered × World) (i j : ℕ) (p : Place) (n o : Owner)
    → n.host ≡ o.host → MovesBefore t.1 calls turns i j p n → MovesBefore w (e ∷ calls) (t ∷ turns) (suc i) (suc j) p o
one_before w calls turns e t i j p n o same moves = elim moves [
  | inl stays ↦ inl stays
  | inr again ↦ inr (
    suc again.0,
    (let after : i ≤ again.0 = again.1 in omega arith),
    (let before : again.0 < j = again.2 in omega arith),
    (again.3.0, again.3.1, same_host (world_after t.1 turns again.0) again.3.0.0 p n o same again.3.2),
  )
]

moves : (w : World) (calls : List (Call × ℕ)) (turns : List (Answered × World)) → Trace w calls turns → (i j : ℕ) → i ≤ j → j ≤ length turns
    → (p : Place) (o : Owner) → owner_at (world_after w turns i) p ≡ Some o → MovesBefore w calls turns i j p o
moves w calls turns trace zero zero less within p o is = inl refl
moves w calls turns trace (suc i) zero less within p o is = absurd (omega arith)
moves w [] [] trace i (suc j) less within p o is = absurd (omega arith)
moves w [] (t ∷ ts) trace i (suc j) less within p o is = absurd trace
moves w (e ∷ es) [] trace i (suc j) less within p o is = absurd trace
moves w (e ∷ es) (t ∷ ts) trace (suc i) (suc j) less within p o is =
    one_before w es ts e t i j p o o refl (moves t.1 es ts trace.1 i j (omega arith) (omega arith) p o is)
moves w (e ∷ es) (t ∷ ts) trace zero (suc j) less within p o is =
    let next = owners_stay_in_step w t.1 e.0 e.1 t.0 trace.0 p o is in
    elim (deadlines_move_by_resends_alone w t.1 e.0 e.1 t.0 trace.0 p o is) [
      | inr again ↦ inr (0, omega arith, omega arith, (e, refl, again))
      | inl stays ↦ elim (one_before w es ts e t 0 j p next.0 o next.2 (moves t.1 es ts trace.1 0 j (omega arith) (omega arith) p next.0 next.1)) [
        | inl later ↦ inl (later ∙ stays)
        | inr again ↦ inr (again.0, omega arith, again.2, again.3)
      ]
    ]

pub deadlines_move_by_resends_in_runs : DeadlinesMoveByResendsInRuns
deadlines_move_by_resends_in_runs w calls turns trace i j less within = moves w calls turns trace i j (omega arith) within

-- ---- held jobs

-- an import, and each step, keep the settings
pub settings_stay_in_step : (w after : World) (c : Call) (now : ℕ) (answer : Answered) → Step w c now after answer → after.settings ≡ w.settings
settings_stay_in_step w after c now answer step =
    by_call w after now (λ c answer. after.settings ≡ w.settings)
    (λ c r reply step.
    ap (λ (v : World). v.settings) step.left
    ∙ ap (λ (v : World). v.settings)
    (classed_like w (host_at_entry w c r) step.jobs (granted (after_settlement w c r now) (host_number w c) now step.jobs)).rest
    ∙ (grants_are_by_place (after_settlement w c r now) (host_number w c) now step.jobs).rest.settings
    ∙ (left_alone w c r now).settings)
    (λ new count step. ap (λ (v : World). v.settings) step.left ∙ settings_with_rows w new)
    (λ count step. ap (λ (v : World). v.settings) step.left ∙ (lapses_are_by_place w now).rest.settings)
    c answer step

-- the first call of a run
first : (w : World) (t : Answered × World) (ts : List (Answered × World)) (e : Call × ℕ) (c : Caller) (r : Request) (now : ℕ) (names : List (List ℕ))
    → Sound w → w.settings.resend_lost_results ≡ true → r.other_results ≡ Some names → e ≡ (call.Rpc c r, now) → Step w e.0 e.1 t.1 t.0
    → IsInSightAfter w (t ∷ ts) 0 c r names
first w t ts e c r now names sound resends lists same step = cases t.0 refl (subst (λ (e : Call × ℕ). Step w e.0 e.1 t.1 t.0) same step)
  where
    cases : (answer : Answered) → t.0 ≡ answer → Step w (call.Rpc c r) now t.1 answer → IsInSightAfter w (t ∷ ts) 0 c r names
    cases (answered.Rpc reply) is step = record {
      reply = reply;
      turn = ap (λ a. Some (a, t.1)) is;
      held = named.a_host_holds_what_is_listed_or_named w t.1 c r now reply names step sound resends lists;
    }
    cases (answered.Imported count) is step = absurd step
    cases (answered.Lapsed count) is step = absurd step

pub a_host_holds_what_is_listed_or_named_in_runs : HoldsWhatIsListedOrNamedInRuns
a_host_holds_what_is_listed_or_named_in_runs w [] turns sound limits trace resends n now c r names called lists =
    absurd (let never : None ≡ Some (call.Rpc c r, now) = called in cc)
a_host_holds_what_is_listed_or_named_in_runs w (e ∷ es) [] sound limits trace resends n now c r names called lists = absurd trace
a_host_holds_what_is_listed_or_named_in_runs w (e ∷ es) (t ∷ ts) sound limits trace resends zero now c r names called lists =
    first w t ts e c r now names sound resends lists (let both : Some e ≡ Some (call.Rpc c r, now) = called in cc) trace.0
a_host_holds_what_is_listed_or_named_in_runs w (e ∷ es) (t ∷ ts) sound limits trace resends (suc n) now c r names called lists =
    let later = a_host_holds_what_is_listed_or_named_in_runs t.1 es ts (step_keeps_sound w t.1 e.0 e.1 t.0 sound limits.0 limits.1 trace.0) limits.2 trace.1
    (ap (λ (s : Settings). s.resend_lost_results) (settings_stay_in_step w t.1 e.0 e.1 t.0 trace.0) ∙ resends) n now c r names called lists in
    record { reply = later.reply; turn = later.turn; held = later.held }
