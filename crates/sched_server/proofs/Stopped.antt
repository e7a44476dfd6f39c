-- What a stop leaves of a store agrees with the arrivals, or with them and one message in doubt.
use Rattle.std.proofs.Common.{ℕ, List, ◌∷◌, refl, sym, ◌∙◌, ap, inl, inr}
use Rattle.http_responses.specs.declared.answer.Answer.{Answer}
use Rattle.http_responses.specs.declared.answer.Answer.TheVariants as answer
use Rattle.sched_book.specs.Sound.{Sound}
use Rattle.stores.specs.Acting.{Parts, Acts}
use Rattle.stores.specs.Eras.{this_era}
use Rattle.stores.specs.Held.{Held, IsLeft}
use Rattle.stores.proofs.ReadsAct.{left_back}
use Rattle.pasts.specs.Messages.{heard_now}
use Rattle.pasts.specs.Stands.{then_heard}
use Rattle.pasts.proofs.Carried.{stands_same, stands_is_carried, served_settings}
use Rattle.pasts.proofs.UpgradePoints.{eras_go_on}
use Rattle.message_engine.specs.Stores.{tables_by}
use Rattle.message_engine.proofs.EntriesKept.{left_same, left_sound}
use Rattle.sched_server.specs.Arrivals.{Came, StandsFor, StandsAtAStop, StoreStandsFor}
use Rattle.sched_server.specs.Handled.{is_answered, HandledAs, IsHandled}
use Rattle.sched_server.specs.Laws.{HandledStands, ReadsStand, WhatIsLeftStands, StopsAreHandled, ReopenedStands}
use Rattle.sched_server.specs.declared.arrival.Arrival.{Arrival}

-- what is left as it was agrees with what it agreed with
pub left_stands : (key : List ℕ) (old new : Held) (points : List ℕ) (before : List Came) → IsLeft old new → StandsFor key old points before → StandsFor key new points before
left_stands key old new points before left st = record {
  past = st.past;
  tells = st.tells;
  in_era = st.in_era;
  keyed = st.keyed ∙ ap (λ w. w.settings.operator_key) (sym left.world_is);
  stands = (st.stands.0, stands_same _ _ st.past st.stands.0 (left_same old new left) st.stands.1);
  sound = left_sound old new left st.sound;
}

-- what holds a message that was handled agrees with that message and the arrivals before it
pub handled_stands_for : (key bytes : List ℕ) (now : ℕ) (old new : Held) (a : Answer) → HandledAs key bytes now a old new
    → (points : List ℕ) (before : List Came) → StandsFor key old points before
    → StandsFor key new points (record { arrival = record { now = now; bytes = bytes }; answer = a } ∷ before)
handled_stands_for key bytes now old new answer.Unavailable same points before st =
    let left = same st.sound in record {
      past = st.past;
      tells = st.tells;
      in_era = st.in_era;
      keyed = st.keyed ∙ ap (λ w. w.settings.operator_key) (sym left.0.world);
      stands = (st.stands.0, stands_same _ _ st.past st.stands.0 left.0 st.stands.1);
      sound = left.1;
    }
handled_stands_for key bytes now old new (answer.Response response) done points before st =
    let served = done.serves st.sound in record {
      past = then_heard st.past (heard_now now done.said) done.told;
      tells = (record { asked = done.asked; means = done.means; says = done.says; moment = refl; response = done.response }, st.tells);
      in_era = eras_go_on this_era points st.past (heard_now now done.said) done.told st.in_era refl;
      keyed = st.keyed ∙ ap (λ s. s.operator_key) (sym (served_settings (tables_by old) (tables_by new) (heard_now now done.said) done.told served.serves));
      stands = stands_is_carried _ _ (heard_now now done.said) done.told served.serves st.past st.stands;
      sound = served.sound;
    }

-- what agreed before an unavailable answer agrees after it, and what was in doubt stays so
pub unavailable_later : (key : List ℕ) (h : Held) (arrival : Arrival) (points : List ℕ) (before : List Came) → StandsAtAStop key h points before
    → StandsAtAStop key h points (record { arrival = arrival; answer = answer.Unavailable } ∷ before)
unavailable_later key h arrival points before (inl st) =
    inl (record { past = st.past; tells = st.tells; in_era = st.in_era; keyed = st.keyed; stands = st.stands; sound = st.sound })
unavailable_later key h arrival points before (inr (doubted, doubt, r, st)) =
    inr (doubted, (refl, inr doubt), r, record { past = st.past; tells = st.tells; in_era = st.in_era; keyed = st.keyed; stands = st.stands; sound = st.sound })

-- a store that was only read agrees with what it agreed with
pub reads_stand : {S : Type 0} (store : Parts S)
    → ((old new : S) → store.reads old new → store.honest new → store.honest old)
    → ((old new : S) → store.reads old new → store.honest new → store.well_kept old → store.well_kept new)
    → ((old new : S) → store.reads old new → store.honest new → store.well_kept old → IsLeft (store.holds old) (store.holds new))
    → ((old new : S) → store.reads old new → (h : Held) → store.may_leave new h → store.may_leave old h)
    → ReadsStand store
reads_stand store was_honest stays_kept stays_held stays_left old new reads key points before st = record {
  held = λ honest.
      let stood = st.held (was_honest old new reads honest) in (
        stays_kept old new reads honest stood.0,
        left_stands key (store.holds old) (store.holds new) points before (stays_held old new reads honest stood.0) stood.1,
      );
  left = λ h may. st.left h (stays_left old new reads h may);
}

module _ {S : Type 0} (store : Parts S)
    (settled : (s : S) → store.honest s → store.well_kept s → Sound (store.holds s).world → (h : Held) → store.may_leave s h → IsLeft (store.holds s) h) where
  pub what_is_left_stands : WhatIsLeftStands store
  what_is_left_stands s honest kept key points before st h may = left_stands key (store.holds s) h points before (settled s honest kept st.sound.world h may) st

  pub stops_are_handled : StopsAreHandled store
  stops_are_handled key bytes now a old new acts points before st honest h may =
      let stood = st.held honest in
      elim (acts.left h may) [
        | inl earlier ↦
            let left = settled old honest stood.0 stood.1.sound.world h earlier in
            (answer.Unavailable, λ sound. (left_same (store.holds old) h left, left_sound (store.holds old) h left sound))
        | inr ahead ↦ let done = ahead.1 stood.0 in (answer.Response done.0, done.1)
      ]

  pub reopened_stands : ReopenedStands store
  reopened_stands s honest kept h left key points before st =
      let here = left_stands key h (store.holds s) points before (left_back (store.holds s) h left) st in record {
        held = λ _. (kept, here);
        left = λ g may. inl (what_is_left_stands s honest kept key points before here g may);
      }

  -- what a stop leaves after an answer
  left_behind : (key bytes : List ℕ) (now : ℕ) (a : Answer) (old new : S) → Acts store (is_answered a) (IsHandled key bytes now (store.holds old)) old new
      → (points : List ℕ) (before : List Came) → StoreStandsFor store key points before old → store.clean new
      → (store.honest new → StandsFor key (store.holds new) points (record { arrival = record { now = now; bytes = bytes }; answer = a } ∷ before))
      → (h : Held) → store.may_leave new h → StandsAtAStop key h points (record { arrival = record { now = now; bytes = bytes }; answer = a } ∷ before)
  left_behind key bytes now answer.Unavailable old new acts points before st clean here h may = elim (acts.left h may) [
    | inl earlier ↦ unavailable_later key h (record { now = now; bytes = bytes }) points before (st.left h earlier)
    | inr ahead ↦
        let stood = st.held ahead.0 in
        let done = ahead.1 stood.0 in
        let there = handled_stands_for key bytes now (store.holds old) h (answer.Response done.0) done.1 points before stood.1 in
        inr (
          record { now = now; bytes = bytes },
          (refl, inl refl),
          done.0,
          record { past = there.past; tells = there.tells; in_era = there.in_era; keyed = there.keyed; stands = there.stands; sound = there.sound },
        )
  ]
  left_behind key bytes now (answer.Response r) old new acts points before st clean here h may =
      let honest = acts.is_open clean refl in
      let stood = here honest in
      let kept = acts.stays_kept honest (st.held (acts.was_honest honest)).0 in
      inl (what_is_left_stands new honest kept key points _ stood h may)

  pub handled_stands : HandledStands store
  handled_stands key bytes now a old new acts exact points before st clean =
      let here : store.honest new → StandsFor key (store.holds new) points (record { arrival = record { now = now; bytes = bytes }; answer = a } ∷ before) =
      λ honest.
      let stood = st.held (acts.was_honest honest) in
      handled_stands_for key bytes now (store.holds old) (store.holds new) a (exact honest stood.0) points before stood.1 in record {
        held = λ honest. (acts.stays_kept honest (st.held (acts.was_honest honest)).0, here honest);
        left = left_behind key bytes now a old new acts points before st clean here;
      }
