-- Every owner got its instance by a call of its host, with a version of the class that the workunit keeps to.
use Rattle.std.proofs.Common.{◌≡◌, ◌⊎◌, inl, inr, ℕ, Bool, true, false, cond, eqb, List, [], ◌∷◌, Option, Some, None, sym, refl, ap, ◌∙◌, subst}
use Rattle.std.specs.Prelude.{option_and_then, slice_get}
use Rattle.sched_book.specs.Limits.{AreSettingsInLimits}
use Rattle.sched_book.specs.Sound.{Sound}
use Rattle.sched_book.specs.Step.{Step, empty_world}
use Rattle.sched_book.specs.declared.instance.Instance.{Instance}
use Rattle.sched_book.specs.declared.instance.Owner.{Owner}
use Rattle.sched_book.specs.declared.instance.Place.{Place}
use Rattle.sched_book.specs.declared.instance.UnitBook.{UnitBook}
use Rattle.sched_book.specs.declared.machine.Answered.{Answered}
use Rattle.sched_book.specs.declared.machine.Answered.TheVariants as answered
use Rattle.sched_book.specs.declared.machine.Call.{Call}
use Rattle.sched_book.specs.declared.machine.Call.TheVariants as call
use Rattle.sched_book.specs.declared.settings.Settings.{Settings}
use Rattle.sched_book.specs.declared.world.World.{World}
use Rattle.pasts.specs.Many.{ServesAll}
use Rattle.pasts.specs.Messages.{Message}
use Rattle.pasts.specs.Runs.{Turn, SaysCall, world_of_run}
use Rattle.pasts.specs.Stands.{ServesAs, told_by}
use Rattle.pasts.specs.declared.answer.AnswerContent.{AnswerContent}
use Rattle.pasts.proofs.Carried.{run_of, same_itself}
use Rattle.pasts.proofs.RunLeaves.{IsRun}
use Rattle.sched_machine.specs.Classes.{ClassesStay, IsGiven, HadOwner}
use Rattle.sched_machine.specs.Runs.{owner_at}
use Rattle.sched_machine.proofs.Classes.Owners as classes
use Rattle.sched_machine.proofs.Classes.Runs.{still_given}
use Rattle.sched_machine.proofs.Classes.Kept.{classes_stay_in_step, stay_self, stay_then}
use Rattle.sched_machine.proofs.Moves.Sound.{step_keeps_sound, the_empty_world_is_sound}
use Rattle.past_laws.specs.Classes.{IsGivenByMessage, OwnersAreOfClassesAtAMessage, OwnersAreOfClassesOverMessages, IsGivenByATurn, OwnersWereGiven}
use Rattle.past_laws.proofs.Calls.{said_by}
use Rattle.past_laws.proofs.Holds.{classes_stay, have_stood_on}
use Rattle.past_laws.proofs.Sounds.{what_stands_is_sound}

-- ---- one message

given_by : (old new : World) (m : Message) (c : Call) (answer : Answered) → SaysCall m.said c → Step old c m.now new answer → (p : Place) (o : Owner)
    → IsGiven old new c m.now p o → IsGivenByMessage old new m p o
given_by old new m (call.Rpc caller r) (answered.Rpc reply) is step p o given = record {
  caller = caller;
  request = r;
  said = said_by m.said caller r is;
  is_caller = step.caller;
  given = given;
}
given_by old new m (call.Rpc caller r) (answered.Imported n) is step p o given = absurd step
given_by old new m (call.Rpc caller r) (answered.Lapsed n) is step p o given = absurd step
given_by old new m (call.Import rows) answer is step p o given = absurd given
given_by old new m call.Tick answer is step p o given = absurd given

pub owners_are_of_classes_at_a_message : OwnersAreOfClassesAtAMessage
owners_are_of_classes_at_a_message old new m answer stood serves p o owned = cases (told_by old m.said) serves
  where
    cases : (told : Option AnswerContent) → ServesAs told old m answer new → HadOwner old.world p o ⊎ IsGivenByMessage old.world new.world m p o
    cases (Some told) quiet = inl (o, ap (λ w. owner_at w p) (sym quiet.1.world) ∙ owned, refl, refl)
    cases None c =
        elim (classes.owners_are_of_classes old.world new.world c.call m.now c.answered (what_stands_is_sound old stood) c.step p o owned) [
          | inl before ↦ inl before
          | inr given ↦ inr (given_by old.world new.world m c.call c.answered c.is_call c.step p o given)
        ]

-- ---- many messages

-- an instance that was given is still given in a later world, while classes stay and the owner has the same host and moment
pub given_on : (w later next : World) (m : Message) (p : Place) (n o : Owner) → ClassesStay later next → n.host ≡ o.host → n.sent ≡ o.sent
    → IsGivenByMessage w later m p n → IsGivenByMessage w next m p o
given_on w later next m p n o stay host sent by = record {
  caller = by.caller;
  request = by.request;
  said = by.said;
  is_caller = by.is_caller;
  given = still_given w later next (call.Rpc by.caller by.request) m.now p n o stay host sent by.given;
}

pub owners_are_of_classes_over_messages : OwnersAreOfClassesOverMessages
owners_are_of_classes_over_messages old new [] all stood p o owned = inl (o, ap (λ w. owner_at w p) (sym all.world) ∙ owned, refl, refl)
owners_are_of_classes_over_messages old new (h ∷ more) all stood p o owned =
    let one : ServesAll old (h ∷ []) all.0 = (all.0, all.1, same_itself all.0) in
    elim (owners_are_of_classes_over_messages all.0 new more all.2 (have_stood_on old all.0 (h ∷ []) stood one) p o owned) [
      | inr later ↦ inr (inr later)
      | inl before ↦ elim (owners_are_of_classes_at_a_message old all.0 h.message h.answer stood all.1 p before.0 before.1) [
        | inl first ↦ inl (first.0, first.1, first.2 ∙ before.2, first.3 ∙ before.3)
        | inr given ↦ inr (inl (given_on old.world all.0.world new.world h.message p before.0 o (classes_stay.1 old all.0 new (h ∷ []) more stood one all.2) before.2 before.3 given))
      ]
    ]

-- ---- what is stored

-- a run leaves a sound world
run_sound : (s : Settings) (turns : List Turn) → AreSettingsInLimits s → IsRun s turns → Sound (world_of_run s turns)
run_sound s [] limits run = the_empty_world_is_sound s limits
run_sound s (turn ∷ older) limits run =
    step_keeps_sound (world_of_run s older) turn.after turn.call turn.message.now turn.answered (run_sound s older limits run.2) run.1.limits.request run.1.limits.moment run.1.step

nobody_owns : (s : Settings) (p : Place) (o : Owner) → owner_at (empty_world s) p ≡ Some o → ⊥
nobody_owns s p o owned = cases (eqb p.unit 0) owned
  where
    cases : (b : Bool)
        → option_and_then (λ (x : Instance). x.owner) (option_and_then (λ (b : UnitBook). slice_get b.instances p.number) (cond {A = Option UnitBook} b None None)) ≡ Some o → ⊥
    cases true none = absurd cc
    cases false none = absurd cc

given_in_run : (s : Settings) (turns : List Turn) → AreSettingsInLimits s → IsRun s turns → (later : World) → ClassesStay (world_of_run s turns) later
    → (p : Place) (m o : Owner) → m.host ≡ o.host → m.sent ≡ o.sent → owner_at (world_of_run s turns) p ≡ Some m → IsGivenByATurn s later turns p o
given_in_run s [] limits run later stay p m o host sent owned = nobody_owns s p m owned
given_in_run s (turn ∷ older) limits run later stay p m o host sent owned =
    let w : World = world_of_run s older in
    let now : ℕ = turn.message.now in
    elim (classes.owners_are_of_classes w turn.after turn.call now turn.answered (run_sound s older limits run.2) run.1.step p m owned) [
      | inl before ↦ inr (given_in_run s older limits run.2 later
          (stay_then w turn.after later (classes_stay_in_step w turn.after turn.call now turn.answered run.1.step) stay)
          p before.0 o (before.2 ∙ host) (before.3 ∙ sent) before.1)
      | inr given ↦ inl (still_given w turn.after later turn.call now p m o stay host sent given)
    ]

pub owners_were_given : OwnersWereGiven
owners_were_given t past turns limits by p o owned =
    let s : Settings = t.world.settings in
    given_in_run s turns limits (run_of s past turns by.answers).1 t.world
    (subst (λ w. ClassesStay w t.world) by.world (stay_self t.world)) p o o refl refl (ap (λ w. owner_at w p) (sym by.world) ∙ owned)
