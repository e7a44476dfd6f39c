-- What holds through each run of the machine holds of the worlds before and after messages of bytes.
use Rattle.std.proofs.Common.{◌≡◌, ◌⊎◌, ℕ, List, [], ◌∷◌, ◌++◌, Some, ◌∙◌, refl, ap, subst, inl, inr, arith}
use Rattle.http_responses.specs.declared.answer.Answer.{Answer}
use Rattle.http_responses.specs.declared.answer.Answer.TheVariants as answer
use Rattle.sched_book.specs.Count.{is_open}
use Rattle.sched_book.specs.Step.{deadline_at}
use Rattle.sched_book.specs.declared.instance.Owner.{Owner}
use Rattle.sched_book.specs.declared.instance.Place.{Place}
use Rattle.sched_book.specs.declared.world.World.{World}
use Rattle.stores.specs.Held.{Held}
use Rattle.stores.proofs.ReadsAct.{left_is}
use Rattle.pasts.specs.Many.{ServesAll}
use Rattle.pasts.specs.Messages.{Message, heard_now}
use Rattle.pasts.specs.Stands.{Heard, Tables, Same, Serves}
use Rattle.pasts.proofs.Carried.{same_itself}
use Rattle.pasts.specs.declared.answer.AnswerContent as told
use Rattle.past_laws.specs.Laws as past
use Rattle.past_laws.specs.Laws.{SettingsStay}
use Rattle.past_laws.proofs.Calls as calls_of_pasts
use Rattle.past_laws.proofs.Calls.{same_host}
use Rattle.past_laws.proofs.Holds as holds
use Rattle.past_laws.proofs.Holds.{owners_stay}
use Rattle.sched_machine.proofs.Classes.Kept.{stay_self, stay_then}
use Rattle.sched_machine.specs.Classes.{ClassesStay}
use Rattle.sched_machine.specs.Decisions.{UnitsStay, CanonicalsStay, VerdictsStay, StatusesStay, CreditsStay}
use Rattle.sched_machine.specs.Runs.{owner_at, OwnersStay, ReportsStay, LapsesStay}
use Rattle.message_engine.specs.Stores.{tables_by, IsSoundStore}
use Rattle.message_engine.proofs.EntriesKept.{left_same, left_sound}
use Rattle.sched_server.specs.Arrivals.{Came, StandsFor, HandledInTurn, HandledOverStops}
use Rattle.sched_server.specs.Handled.{HandledAs}
use Rattle.sched_server.specs.Laws.{HoldsOfWhatStands, HoldsAtAMessage, HoldsOverMessages, Lasts, HoldsOverStops, AllStay, IsSentAgainAt, DeadlinesMoveByResendsAlone, DeadlinesMoveByResendsOverMessages, NoHeldJobDropsFromSight}

-- ---- many messages

same_tables : (a b : Tables) → Same a b → a ≡ b
same_tables a b same = λ i. record { world = same.world i; calls = λ key. same.calls key i; batches = λ kind batch. same.batches kind batch i }

-- the same, if the state after the last is unchanged
all_same : (old mid new : Tables) (more : List Heard) → Same new mid → ServesAll old more mid → ServesAll old more new
all_same old mid new [] same all = record {
  world = same.world ∙ all.world;
  calls = λ key. same.calls key ∙ all.calls key;
  batches = λ kind batch. same.batches kind batch ∙ all.batches kind batch;
}
all_same old mid new (h ∷ more) same all = (all.0, all.1, all_same all.0 mid new more same all.2)

-- these messages, and then one more
all_then : (old mid new : Tables) (more : List Heard) (m : Message) (a : told.AnswerContent) → ServesAll old more mid → Serves mid m a new
    → ServesAll old (more ++ record { message = m; answer = a } ∷ []) new
all_then old mid new [] m a same serves = (new, subst (λ t. Serves t m a new) (same_tables mid old same) serves, same_itself new)
all_then old mid new (h ∷ more) m a all serves = (all.0, all.1, all_then all.0 mid new more m a all.2 serves)

-- some messages were served, and what is then stored is sound
unfoldable pub Served : Tables → Held → Type 0
Served first held = (more : List Heard) × ServesAll first more (tables_by held) × IsSoundStore held

served_next : (key bytes : List ℕ) (now : ℕ) (a : Answer) (first : Tables) (old new : Held) → Served first old → HandledAs key bytes now a old new → Served first new
unfolding Served
served_next key bytes now answer.Unavailable first old new served same =
    let left = same served.2 in (
      served.0,
      all_same first (tables_by old) (tables_by new) served.0 left.0 served.1,
      left.1,
    )
served_next key bytes now (answer.Response r) first old new served done =
    let serves = done.serves served.2 in
    let m : Message = heard_now now done.said in (
      served.0 ++ record { message = m; answer = done.told } ∷ [],
      all_then first (tables_by old) (tables_by new) served.0 m done.told served.1 serves.serves,
      serves.sound,
    )

served_on : (key : List ℕ) (came : List Came) (first : Tables) (old new : Held) → Served first old → HandledInTurn key came old new → Served first new
unfolding Served
served_on key [] first old new served same =
    let left = same served.2 in (served.0, all_same first (tables_by old) (tables_by new) served.0 left.0 served.1, left.1)
served_on key (c ∷ earlier) first old new served done =
    served_next key c.arrival.bytes c.arrival.now c.answer first done.0 new (served_on key earlier first old done.0 served done.1) done.2

pub served_in_turn : (key : List ℕ) (came : List Came) (old new : Held) → IsSoundStore old → HandledInTurn key came old new → Served (tables_by old) new
unfolding Served
served_in_turn key came old new sound done = served_on key came (tables_by old) old new ([], same_itself (tables_by old), sound) done

-- ---- the laws

pub have_stood : (key : List ℕ) (old : Held) (points : List ℕ) (before : List Came) → StandsFor key old points before
    → past.HaveStood (tables_by old)
have_stood key old points before st = record { settings = st.sound.world.rows.settings; past = st.past; stands = st.stands }

pub of_what_stands : (P : World → Type 0) → past.HoldsWhereTablesStand P → HoldsOfWhatStands P
of_what_stands P law key old points before st = law (tables_by old) (have_stood key old points before st)

at_a_message : (R : World → World → Type 0) → past.HoldsOfMessages R → HoldsAtAMessage R
at_a_message R law key bytes now old new answer.Unavailable points before st same =
    law.1 (tables_by old) (tables_by old) (tables_by new) [] []
    (have_stood key old points before st) (same_itself (tables_by old)) (same st.sound).0
at_a_message R law key bytes now old new (answer.Response r) points before st done =
    law.0 (tables_by old) (tables_by new) (heard_now now done.said) done.told
    (have_stood key old points before st) (done.serves st.sound).serves

over_messages : (R : World → World → Type 0) → past.HoldsOfMessages R → HoldsOverMessages R
unfolding Served
over_messages R law key old new points came before st done =
    let served = served_in_turn key came old new st.sound done in
    law.1 (tables_by old) (tables_by old) (tables_by new) [] served.0
    (have_stood key old points before st) (same_itself (tables_by old)) served.1

pub lasts : (R : World → World → Type 0) → past.HoldsOfMessages R → Lasts R
lasts R law = (at_a_message R law, over_messages R law)

-- ---- over stops

served_over_stops : (key : List ℕ) (stretches : List (List Came)) (old new : Held) → IsSoundStore old → HandledOverStops key stretches old new
    → Served (tables_by old) new
unfolding Served
served_over_stops key [] old new sound left = ([], left_same old new left, left_sound old new left sound)
served_over_stops key (came ∷ stretches) old new sound (left, opened, earlier, same, all) =
    served_on key came (tables_by old) opened new (subst (Served (tables_by old)) (left_is opened left same) (served_over_stops key stretches old left sound earlier)) all

over_stops : (R : World → World → Type 0) → past.HoldsOfMessages R → HoldsOverStops R
unfolding Served
over_stops R law key old new points stretches before st all =
    let served = served_over_stops key stretches old new st.sound all in
    law.1 (tables_by old) (tables_by old) (tables_by new) [] served.0
    (have_stood key old points before st) (same_itself (tables_by old)) served.1

pub all_stays_over_stops : HoldsOverStops AllStay
all_stays_over_stops key old new points stretches before st all = record {
  settings = over_stops SettingsStay holds.settings_stay key old new points stretches before st all;
  units = over_stops UnitsStay holds.units_stay key old new points stretches before st all;
  owners = over_stops OwnersStay holds.owners_stay key old new points stretches before st all;
  reports = over_stops ReportsStay holds.reports_stay key old new points stretches before st all;
  lapses = over_stops LapsesStay holds.lapses_stay key old new points stretches before st all;
  canonicals = over_stops CanonicalsStay holds.canonicals_stay key old new points stretches before st all;
  verdicts = over_stops VerdictsStay holds.verdicts_stay key old new points stretches before st all;
  statuses = over_stops StatusesStay holds.statuses_stay key old new points stretches before st all;
  credits = over_stops CreditsStay holds.credits_never_fall key old new points stretches before st all;
  classes = over_stops ClassesStay holds.classes_stay key old new points stretches before st all;
}

-- everything stays in a world that stays
pub all_stays_self : (w : World) → AllStay w w
all_stays_self w = record {
  settings = refl;
  units = λ unit is. is;
  owners = λ p o is. (o, is, refl, refl);
  reports = λ p t is. is;
  lapses = λ p l is. is;
  canonicals = λ unit number is. is;
  verdicts = λ p v is. is;
  statuses = λ unit is closed. refl;
  credits = record { host = λ number. omega arith; user = λ account. omega arith };
  classes = stay_self w;
}

-- everything that stays from one world to a second, and from that to a third, stays from the first to the third
pub all_stays_then : (w v u : World) → AllStay w v → AllStay v u → AllStay w u
all_stays_then w v u first second = record {
  settings = second.settings ∙ first.settings;
  units = λ unit is. second.units unit (first.units unit is);
  owners = λ p o is.
      let mid = first.owners p o is in
      let last = second.owners p mid.0 mid.1 in (last.0, last.1, last.2 ∙ mid.2, last.3 ∙ mid.3);
  reports = λ p t is. second.reports p t (first.reports p t is);
  lapses = λ p l is. second.lapses p l (first.lapses p l is);
  canonicals = λ unit number is. second.canonicals unit number (first.canonicals unit number is);
  verdicts = λ p o is. second.verdicts p o (first.verdicts p o is);
  statuses = λ unit is closed.
      second.statuses unit (first.units unit is) (ap is_open (first.statuses unit is closed) ∙ closed) ∙ first.statuses unit is closed;
  credits = record {
    host = λ number. (let one : _ = first.credits.host number in let two : _ = second.credits.host number in omega arith);
    user = λ account. (let one : _ = first.credits.user account in let two : _ = second.credits.user account in omega arith);
  };
  classes = stay_then w v u first.classes second.classes;
}

pub deadlines_move_by_resends_alone : DeadlinesMoveByResendsAlone
deadlines_move_by_resends_alone key bytes now r old new points before st h p o owned =
    calls_of_pasts.deadlines_move_by_resends_alone (tables_by old) (tables_by new)
    (heard_now now h.said) h.told (h.serves st.sound).serves p o owned

-- one message of many
at_one : (key bytes : List ℕ) (now : ℕ) (a : Answer) (old new : Held) → IsSoundStore old → (done : HandledAs key bytes now a old new)
    → (p : Place) (o : Owner) → owner_at old.world p ≡ Some o
    → (deadline_at new.world p ≡ deadline_at old.world p) ⊎ IsSentAgainAt key bytes now a old new done p o
at_one key bytes now answer.Unavailable old new sound same p o owned = inl (ap (λ w. deadline_at w p) (same sound).0.world)
at_one key bytes now (answer.Response r) old new sound done p o owned =
    calls_of_pasts.deadlines_move_by_resends_alone (tables_by old) (tables_by new)
    (heard_now now done.said) done.told (done.serves sound).serves p o owned

at_the_host : (key bytes : List ℕ) (now : ℕ) (a : Answer) (old new : Held) (done : HandledAs key bytes now a old new) (p : Place) (n o : Owner) → n.host ≡ o.host
    → IsSentAgainAt key bytes now a old new done p n → IsSentAgainAt key bytes now a old new done p o
at_the_host key bytes now answer.Unavailable old new done p n o same again = again
at_the_host key bytes now (answer.Response r) old new done p n o same again = same_host old.world (heard_now now done.said) p n o same again

pub deadlines_move_by_resends_over_messages : DeadlinesMoveByResendsOverMessages
unfolding Served
deadlines_move_by_resends_over_messages key old new points [] before st all p o owned = inl (ap (λ w. deadline_at w p) (all st.sound).0.world)
deadlines_move_by_resends_over_messages key old new points (c ∷ earlier) before st all p o owned =
    let sound = (served_in_turn key earlier old all.0 st.sound all.1).2 in
    let next = over_messages OwnersStay owners_stay key old all.0 points earlier before st all.1 p o owned in
    elim (deadlines_move_by_resends_over_messages key old all.0 points earlier before st all.1 p o owned) [
      | inr again ↦ inr (inr again)
      | inl stays ↦ elim (at_one key c.arrival.bytes c.arrival.now c.answer all.0 new sound all.2 p next.0 next.1) [
        | inl later ↦ inl (later ∙ stays)
        | inr again ↦ inr (inl (at_the_host key c.arrival.bytes c.arrival.now c.answer all.0 new all.2 p next.0 o next.2 again))
      ]
    ]

pub no_held_job_drops_from_sight : NoHeldJobDropsFromSight
no_held_job_drops_from_sight key bytes now r old new points before st h request names says first resends lists =
    calls_of_pasts.no_held_job_drops_from_sight (tables_by old) (tables_by new)
    (heard_now now h.said) h.told request names (have_stood key old points before st) says first (h.serves st.sound).serves resends lists
