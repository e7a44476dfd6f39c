-- What one first-heard call does to deadlines and held jobs.
use Rattle.std.proofs.Common.{◌≡◌, ◌⊎◌, ℕ, true, List, [], ◌∷◌, Some, None, refl, sym, ◌∙◌, ap, subst, inl, inr}
use Rattle.std.specs.Prelude.{Option}
use Rattle.rpc_records.specs.declared.reply.Reply.{Reply}
use Rattle.rpc_records.specs.declared.request.Request.{Request}
use Rattle.sched_book.specs.Sound.{Sound}
use Rattle.sched_book.specs.Step.{Step, deadline_at}
use Rattle.sched_book.specs.declared.instance.Owner.{Owner}
use Rattle.sched_book.specs.declared.instance.Place.{Place}
use Rattle.sched_book.specs.declared.machine.Answered.{Answered}
use Rattle.sched_book.specs.declared.machine.Answered.TheVariants as answered
use Rattle.sched_book.specs.declared.machine.Call.{Call}
use Rattle.sched_book.specs.declared.machine.Call.TheVariants as call
use Rattle.sched_book.specs.declared.machine.Caller.{Caller}
use Rattle.sched_book.specs.declared.world.World.{World}
use Rattle.pasts.specs.Answers.{body_of}
use Rattle.pasts.specs.Messages.{Said, Rpc, Import, Tick, Read, Refused, Message}
use Rattle.pasts.specs.Runs.{SaysCall}
use Rattle.pasts.specs.Many.{ServesAll}
use Rattle.pasts.specs.Stands.{Heard, Tables, Commits, Serves, ServesAs, told_by}
use Rattle.pasts.specs.declared.answer.AnswerContent.{AnswerContent}
use Rattle.pasts.specs.declared.answer.AnswerContent.TheVariants.{Good}
use Rattle.sched_machine.specs.Runs.{owner_at, OwnersStay, IsSentAgain}
use Rattle.sched_machine.proofs.Held.Named as named
use Rattle.sched_machine.proofs.Runs.Deadlines as deadlines
use Rattle.sched_machine.proofs.Runs.Lasting.{owners_stay_in_step}
use Rattle.past_laws.specs.Laws.{IsSentAgainBy, DeadlinesMoveByResendsAlone, IsSentAgainBySome, DeadlinesMoveByResendsOverMessages, IsInSight, NoHeldJobDropsFromSight}
use Rattle.past_laws.proofs.Sounds.{what_stands_is_sound}

-- if a message says a call, this is what it says
pub said_by : (said : Said) (caller : Caller) (r : Request) → SaysCall said (call.Rpc caller r) → said ≡ Rpc r
said_by (Rpc request) caller r is = ap Rpc (sym is)
said_by (Import kind batch text read) caller r is = absurd is
said_by Tick caller r is = absurd is
said_by (Read tells) caller r is = absurd is
said_by (Refused fault) caller r is = absurd is

-- ---- deadlines

sent_again : (old new : World) (m : Message) (c : Call) (answer : Answered) → SaysCall m.said c → Step old c m.now new answer → (p : Place) (o : Owner)
    → IsSentAgain old c p o → IsSentAgainBy old m p o
sent_again old new m (call.Rpc caller r) (answered.Rpc reply) is step p o again = record {
  caller = caller;
  request = r;
  said = said_by m.said caller r is;
  is_caller = step.caller;
  again = again;
}
sent_again old new m (call.Rpc caller r) (answered.Imported n) is step p o again = absurd step
sent_again old new m (call.Rpc caller r) (answered.Lapsed n) is step p o again = absurd step
sent_again old new m (call.Import rows) answer is step p o again = absurd again
sent_again old new m call.Tick answer is step p o again = absurd again

pub deadlines_move_by_resends_alone : DeadlinesMoveByResendsAlone
deadlines_move_by_resends_alone old new m answer serves p o owned = cases (told_by old m.said) serves
  where
    cases : (told : Option AnswerContent) → ServesAs told old m answer new
        → (deadline_at new.world p ≡ deadline_at old.world p) ⊎ IsSentAgainBy old.world m p o
    cases (Some told) quiet = inl (ap (λ w. deadline_at w p) quiet.1.world)
    cases None c =
        elim (deadlines.deadlines_move_by_resends_alone old.world new.world c.call m.now c.answered c.step p o owned) [
          | inl stays ↦ inl stays
          | inr again ↦ inr (sent_again old.world new.world m c.call c.answered c.is_call c.step p o again)
        ]

-- through a message an instance that was given to a host stays that host's
owner_stays : (old new : Tables) (m : Message) (answer : AnswerContent) → Serves old m answer new → OwnersStay old.world new.world
owner_stays old new m answer serves = cases (told_by old m.said) serves
  where
    cases : (told : Option AnswerContent) → ServesAs told old m answer new → OwnersStay old.world new.world
    cases (Some told) quiet = λ p o owned. (o, ap (λ w. owner_at w p) quiet.1.world ∙ owned, refl, refl)
    cases None c = owners_stay_in_step old.world new.world c.call m.now c.answered c.step

-- what is sent again for one owner is sent again for another with the same host
pub same_host : (w : World) (m : Message) (p : Place) (n o : Owner) → n.host ≡ o.host → IsSentAgainBy w m p n → IsSentAgainBy w m p o
same_host w m p n o same by = record {
  caller = by.caller;
  request = by.request;
  said = by.said;
  is_caller = by.is_caller;
  again = (sym same ∙ by.again.0, by.again.1);
}

same_host_of_some : (old new : Tables) (more : List Heard) (all : ServesAll old more new) (p : Place) (n o : Owner) → n.host ≡ o.host
    → IsSentAgainBySome old more new all p n → IsSentAgainBySome old more new all p o
same_host_of_some old new [] all p n o same again = again
same_host_of_some old new (h ∷ more) all p n o same (inl again) = inl (same_host old.world h.message p n o same again)
same_host_of_some old new (h ∷ more) all p n o same (inr again) = inr (same_host_of_some all.0 new more all.2 p n o same again)

pub deadlines_move_by_resends_over_messages : DeadlinesMoveByResendsOverMessages
deadlines_move_by_resends_over_messages old new [] all p o owned = inl (ap (λ w. deadline_at w p) all.world)
deadlines_move_by_resends_over_messages old new (h ∷ more) all p o owned =
    let next = owner_stays old all.0 h.message h.answer all.1 p o owned in
    elim (deadlines_move_by_resends_alone old all.0 h.message h.answer all.1 p o owned) [
      | inr again ↦ inr (inl again)
      | inl stays ↦ elim (deadlines_move_by_resends_over_messages all.0 new more all.2 p next.0 next.1) [
        | inl later ↦ inl (later ∙ stays)
        | inr again ↦ inr (inr (same_host_of_some all.0 new more all.2 p next.0 o next.2 again))
      ]
    ]

-- ---- held jobs

in_sight : (old new : World) (said : Said) (r : Request) (now : ℕ) (names : List (List ℕ)) (answer : AnswerContent) (c : Call) (a : Answered) → Sound old
    → old.settings.resend_lost_results ≡ true → r.other_results ≡ Some names → said ≡ Rpc r → SaysCall said c → Step old c now new a
    → answer ≡ Good (body_of a said) → IsInSight old new r names answer
in_sight old new said r now names answer c a sound resends lists says is step answer_is =
    let P : Said → Type 0 = λ said. SaysCall said c in at_step c a (subst P says is) step (answer_is ∙ ap (λ said. Good (body_of a said)) says)
  where
    of_reply : (caller : Caller) (q : Request) (reply : Reply) → q ≡ r → Step old (call.Rpc caller q) now new (answered.Rpc reply)
        → answer ≡ Good (body_of (answered.Rpc reply) (Rpc r)) → IsInSight old new r names answer
    of_reply caller q reply same step answer_is =
        let P : Request → Type 0 = λ q. Step old (call.Rpc caller q) now new (answered.Rpc reply) in
        let mine = subst P same step in record {
          caller = caller;
          is_caller = mine.caller;
          reply = reply;
          answer_is = answer_is;
          held = named.a_host_holds_what_is_listed_or_named old new caller r now reply names mine sound resends lists;
        }

    at_step : (c : Call) (a : Answered) → SaysCall (Rpc r) c → Step old c now new a → answer ≡ Good (body_of a (Rpc r)) → IsInSight old new r names answer
    at_step (call.Rpc caller q) (answered.Rpc reply) same step answer_is = of_reply caller q reply same step answer_is
    at_step (call.Rpc caller q) (answered.Imported n) same step answer_is = absurd step
    at_step (call.Rpc caller q) (answered.Lapsed n) same step answer_is = absurd step
    at_step (call.Import rows) a same step answer_is = absurd same
    at_step call.Tick a same step answer_is = absurd same

pub no_held_job_drops_from_sight : NoHeldJobDropsFromSight
no_held_job_drops_from_sight old new m answer r names stood says first serves resends lists =
    let P : Option AnswerContent → Type 0 = λ told. ServesAs told old m answer new in
    let c : Commits old m answer new = subst P first serves in
    in_sight old.world new.world m.said r m.now names answer c.call c.answered (what_stands_is_sound old stood) resends lists says c.is_call c.step c.answer_is
