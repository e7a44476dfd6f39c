-- Each owner got its instance by a call of its host, with a version of the class that the workunit keeps to: over messages of bytes.
use Rattle.std.proofs.Common.{◌≡◌, ◌⊎◌, inl, inr, ℕ, List, [], ◌∷◌, Some, sym, refl, ap, ◌∙◌, subst}
use Rattle.http_responses.specs.declared.answer.Answer.{Answer}
use Rattle.http_responses.specs.declared.answer.Answer.TheVariants as answer
use Rattle.sched_book.specs.declared.instance.Owner.{Owner}
use Rattle.sched_book.specs.declared.instance.Place.{Place}
use Rattle.sched_book.specs.declared.world.World.{World}
use Rattle.stores.specs.Held.{Held}
use Rattle.pasts.specs.Messages.{heard_now}
use Rattle.past_laws.specs.Laws.{HaveStood}
use Rattle.past_laws.proofs.Holds as past
use Rattle.past_laws.proofs.Owners as owners
use Rattle.sched_machine.specs.Classes.{ClassesStay, HadOwner}
use Rattle.sched_machine.specs.Runs.{owner_at}
use Rattle.sched_machine.proofs.Classes.Kept.{stay_self, stay_then}
use Rattle.message_engine.specs.Stores.{tables_by, IsSoundStore}
use Rattle.sched_server.specs.Arrivals.{Came, StandsFor, HandledInTurn}
use Rattle.sched_server.specs.Classes.{OwnersAreOfClassesAtAMessage, IsGivenAt, IsGivenAmong, OwnersAreOfClassesOverMessages, OwnersWereGiven}
use Rattle.sched_server.specs.Handled.{HandledAs}
use Rattle.sched_server.proofs.Lasting.{Served, have_stood, served_in_turn}

pub owners_are_of_classes_at_a_message : OwnersAreOfClassesAtAMessage
owners_are_of_classes_at_a_message key bytes now r old new points before st h p o owned =
    owners.owners_are_of_classes_at_a_message (tables_by old) (tables_by new) (heard_now now h.said) h.told
    (have_stood key old points before st) (h.serves st.sound).serves p o owned

-- one message of many
classes_at_one : (key bytes : List ℕ) (now : ℕ) (a : Answer) (old new : Held) → IsSoundStore old → HaveStood (tables_by old) → HandledAs key bytes now a old new
    → ClassesStay old.world new.world
classes_at_one key bytes now answer.Unavailable old new sound stood same = subst (ClassesStay old.world) (sym (same sound).0.world) (stay_self old.world)
classes_at_one key bytes now (answer.Response r) old new sound stood done =
    past.classes_stay.0 (tables_by old) (tables_by new) (heard_now now done.said) done.told stood (done.serves sound).serves

at_one : (key bytes : List ℕ) (now : ℕ) (a : Answer) (old new : Held) → IsSoundStore old → HaveStood (tables_by old) → (done : HandledAs key bytes now a old new)
    → (later : World) → ClassesStay new.world later → (p : Place) (m o : Owner) → m.host ≡ o.host → m.sent ≡ o.sent → owner_at new.world p ≡ Some m
    → HadOwner old.world p o ⊎ IsGivenAt key bytes now a old new done later p o
at_one key bytes now answer.Unavailable old new sound stood same later stay p m o host sent owned =
    inl (m, ap (λ w. owner_at w p) (sym (same sound).0.world) ∙ owned, host, sent)
at_one key bytes now (answer.Response r) old new sound stood done later stay p m o host sent owned =
    elim (owners.owners_are_of_classes_at_a_message (tables_by old) (tables_by new) (heard_now now done.said) done.told stood (done.serves sound).serves p m owned) [
      | inl before ↦ inl (before.0, before.1, before.2 ∙ host, before.3 ∙ sent)
      | inr given ↦ inr (owners.given_on old.world new.world later (heard_now now done.said) p m o stay host sent given)
    ]

over_messages : (key : List ℕ) (old new : Held) (points : List ℕ) (came before : List Came) → StandsFor key old points before
    → (all : HandledInTurn key came old new) → (later : World) → ClassesStay new.world later → (p : Place) (m o : Owner) → m.host ≡ o.host → m.sent ≡ o.sent
    → owner_at new.world p ≡ Some m → HadOwner old.world p o ⊎ IsGivenAmong key came old new all later p o
unfolding Served
over_messages key old new points [] before st all later stay p m o host sent owned =
    inl (m, ap (λ w. owner_at w p) (sym (all st.sound).0.world) ∙ owned, host, sent)
over_messages key old new points (c ∷ earlier) before st all later stay p m o host sent owned =
    let served = served_in_turn key earlier old all.0 st.sound all.1 in
    let stood : HaveStood (tables_by all.0) = past.have_stood_on (tables_by old) (tables_by all.0) served.0 (have_stood key old points before st) served.1 in
    elim (at_one key c.arrival.bytes c.arrival.now c.answer all.0 new served.2 stood all.2 later stay p m o host sent owned) [
      | inr given ↦ inr (inl given)
      | inl owner ↦ elim (over_messages key old all.0 points earlier before st all.1 later
          (stay_then all.0.world new.world later (classes_at_one key c.arrival.bytes c.arrival.now c.answer all.0 new served.2 stood all.2) stay)
          p owner.0 o owner.2 owner.3 owner.1) [
            | inl first ↦ inl first
            | inr given ↦ inr (inr given)
          ]
    ]

pub owners_are_of_classes_over_messages : OwnersAreOfClassesOverMessages
owners_are_of_classes_over_messages key old new points came before st all p o owned =
    over_messages key old new points came before st all new.world (stay_self new.world) p o o refl refl owned

pub owners_were_given : OwnersWereGiven
owners_were_given key held points before st p o owned =
    owners.owners_were_given (tables_by held) st.past st.stands.0 st.sound.world.rows.settings st.stands.1 p o owned
