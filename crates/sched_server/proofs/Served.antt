-- A service that handles messages agrees with the arrivals before and those messages.
use Rattle.std.proofs.Common.{◌≡◌, true, ℕ, ◌≤◌, List, [], ◌∷◌, ◌++◌, length, Option, Some, None, refl, sym, ◌∙◌, subst, inl, inr, arith}
use Rattle.http_responses.specs.Answers.{answer_bytes}
use Rattle.http_responses.specs.declared.answer.Answer.{Answer}
use Rattle.http_responses.specs.declared.answer.Answer.TheVariants as answer
use Rattle.http_serving.specs.Serving.{IsAnswered}
use Rattle.sched_book.specs.Sound.{Sound}
use Rattle.stores.specs.Acting.{Parts, Acts}
use Rattle.stores.specs.Held.{Held, IsLeft}
use Rattle.stores.proofs.ReadsAct.{left_is}
use Rattle.pasts.proofs.Carried.{same_itself}
use Rattle.message_engine.specs.Stores.{tables_by}
use Rattle.sched_server.specs.Arrivals.{Came, StoreStandsFor, HandledInTurn, HandledOverStops}
use Rattle.sched_server.specs.Handled.{is_answered, HandledAs, IsHandled, StaysSound}
use Rattle.sched_server.specs.Laws.{ReadsStand}
use Rattle.sched_server.specs.Serving.{ServiceStandsFor, IsResponse, ServesOne, ServesInTurn, ServesConnection, ServesMessage, messages_of}
use Rattle.sched_server.specs.Views.{store_of, operator_key_of}
use Rattle.sched_server.specs.declared.service.Service.{Service}
use Rattle.sched_server.proofs.Stopped.{handled_stands, unavailable_later}

-- what a service promises of one message
pub record Does {S : Type 0} (store : Parts S) (old : Service S) (now : ℕ) (bytes text : List ℕ) (new : Service S) : Type 0 where
  pub answer : Answer
  pub text_is : text ≡ answer_bytes answer
  pub acts : Acts store (is_answered answer) (IsHandled (operator_key_of old) bytes now (store.holds (store_of old))) (store_of old) (store_of new)
  pub key : operator_key_of new ≡ operator_key_of old
  pub exact : store.honest (store_of new) → store.well_kept (store_of old)
      → HandledAs (operator_key_of old) bytes now answer (store.holds (store_of old)) (store.holds (store_of new))
  pub reopens : (store.honest (store_of old) → store.well_kept (store_of old)) → store.reopens (store_of old) → store.reopens (store_of new)

stays_sound : (held : Held) → StaysSound held held
stays_sound held sound = (same_itself (tables_by held), sound)

-- what is left as it was
self_left : (held : Held) → IsLeft held held
self_left held = record { world_is = refl; calls_are = λ host. refl; batches_are = λ kind batch. refl }

-- one message is a stretch
one_stretch : (key : List ℕ) (c : Came) (old h : Held) → HandledAs key c.arrival.bytes c.arrival.now c.answer old h → (stretches : List (List Came)) × HandledOverStops key stretches old h
one_stretch key c old h done = ((c ∷ []) ∷ [], (old, old, self_left old, self_left old, (old, stays_sound old, done)))

-- stretches after a first one
stretches_on : (key : List ℕ) (stretches : List (List Came)) (came : List Came) (old mid h : Held) → HandledInTurn key came old mid → HandledOverStops key stretches mid h
    → HandledOverStops key (stretches ++ came ∷ []) old h
stretches_on key [] came old mid h first left = (old, old, self_left old, self_left old, subst (HandledInTurn key came old) (sym (left_is mid h left)) first)
stretches_on key (next ∷ stretches) came old mid h first (left, opened, earlier, same, all) = (left, opened, stretches_on key stretches came old mid left first earlier, same, all)

-- a store that did nothing agrees with the message as one whose answer is unavailable
stands_unread : {S : Type 0} (store : Parts S) (key : List ℕ) (now : ℕ) (bytes points : List ℕ) (before : List Came) (s : S)
    → StoreStandsFor store key points before s
    → StoreStandsFor store key points (record { arrival = record { now = now; bytes = bytes }; answer = answer.Unavailable } ∷ before) s
stands_unread store key now bytes points before s st = record {
  held = λ honest.
      let here = st.held honest in
      (here.0, record { past = here.1.past; tells = here.1.tells; in_era = here.1.in_era; keyed = here.1.keyed; stands = here.1.stands; sound = here.1.sound });
  left = λ h may. unavailable_later key h (record { now = now; bytes = bytes }) points before (st.left h may);
}

unread : {S : Type 0} (store : Parts S) (now : ℕ) (bytes : List ℕ) (s : Service S)
    → ServesOne store (record { arrival = record { now = now; bytes = bytes }; answer = answer.Unavailable }) s s
unread store now bytes s = record {
  key = refl;
  was_clean = λ clean. clean;
  was_honest = λ honest. honest;
  was_open = λ clean some. elim some [ inl none ↦ absurd none | inr none ↦ absurd none ];
  stays_kept = λ honest kept. kept;
  handled = λ honest kept. stays_sound (store.holds (store_of s));
  left = λ h may. inl may;
  stands = λ key points before st clean. record { keyed = st.keyed; stands = stands_unread store key now bytes points before (store_of s) st.stands };
  reopens = λ kept reopens. reopens;
}

-- A store that was shut before an unavailable answer still agrees, whatever its key was. Any other store is open.
goes_on : {S : Type 0} (store : Parts S) (key old_key bytes points : List ℕ) (now : ℕ) (a : Answer) (before : List Came) (old new : S)
    → Acts store (is_answered a) (IsHandled old_key bytes now (store.holds old)) old new
    → (store.honest old → StoreStandsFor store key points (record { arrival = record { now = now; bytes = bytes }; answer = a } ∷ before) new)
    → StoreStandsFor store key points before old → store.clean new
    → StoreStandsFor store key points (record { arrival = record { now = now; bytes = bytes }; answer = a } ∷ before) new
goes_on store key old_key bytes points now answer.Unavailable before old new acts whole st clean = record {
  held = λ honest. (whole (acts.was_honest honest)).held honest;
  left = λ h may. elim (acts.left h may) [
    | inl earlier ↦ unavailable_later key h (record { now = now; bytes = bytes }) points before (st.left h earlier)
    | inr ahead ↦ (whole ahead.0).left h may
  ];
}
goes_on store key old_key bytes points now (answer.Response r) before old new acts whole st clean = whole (acts.was_honest (acts.is_open clean refl))

-- a response is an answer
response_is_answered : (a : Answer) → IsResponse a → is_answered a ≡ true
response_is_answered answer.Unavailable none = absurd none
response_is_answered (answer.Response r) response = refl

module _ {S : Type 0} (store : Parts S)
    (settled : (s : S) → store.honest s → store.well_kept s → Sound (store.holds s).world → (h : Held) → store.may_leave s h → IsLeft (store.holds s) h) where
  under_key : (key other points : List ℕ) (before : List Came) (s : S) → key ≡ other → StoreStandsFor store key points before s → StoreStandsFor store other points before s
  under_key key other points before s same st = subst (λ k. StoreStandsFor store k points before s) same st

  -- it served one message with the answer that it gave
  pub one_served : (old new : Service S) (now : ℕ) (bytes text : List ℕ) (does : Does store old now bytes text new)
      → ServesOne store (record { arrival = record { now = now; bytes = bytes }; answer = does.answer }) old new
  one_served old new now bytes text does =
      let stood : (key points : List ℕ) (before : List Came) → ServiceStandsFor store key points before old → store.clean (store_of new) → store.honest (store_of old)
      → StoreStandsFor store key points (record { arrival = record { now = now; bytes = bytes }; answer = does.answer } ∷ before) (store_of new) =
      λ key points before st clean honest.
      under_key (operator_key_of old) key points _ (store_of new) (sym (st.keyed honest))
      (handled_stands store settled (operator_key_of old) bytes now does.answer (store_of old) (store_of new) does.acts does.exact points before
      (under_key key (operator_key_of old) points before (store_of old) (st.keyed honest) st.stands) clean) in record {
        key = does.key;
        was_clean = does.acts.was_clean;
        was_honest = does.acts.was_honest;
        was_open = λ clean some. elim some [ inl response ↦ does.acts.was_honest (does.acts.is_open clean (response_is_answered does.answer response)) | inr none ↦ absurd none ];
        stays_kept = does.acts.stays_kept;
        handled = does.exact;
        left = λ h may. elim (does.acts.left h may) [
          | inl earlier ↦ inl earlier
          | inr ahead ↦ inr (ahead.0, λ kept. let done = ahead.1 kept in one_stretch (operator_key_of old) (record { arrival = record { now = now; bytes = bytes }; answer = answer.Response done.0 }) (store.holds (store_of old)) h done.1)
        ];
        stands = λ key points before st clean. record {
          keyed = λ honest. st.keyed (does.acts.was_honest honest) ∙ sym does.key;
          stands = goes_on store key (operator_key_of old) bytes points now does.answer before (store_of old) (store_of new) does.acts (stood key points before st clean) st.stands clean;
        };
        reopens = does.reopens;
      }

  pub message_served : (old new : Service S) (now : ℕ) (bytes text : List ℕ) → Does store old now bytes text new → ServesMessage store now bytes text old new
  message_served old new now bytes text does =
      record { answer = does.answer; text_is = does.text_is; serves = one_served old new now bytes text does }

  -- there was no room for the whole message
  pub message_unread : (old new : Service S) (now : ℕ) (bytes text : List ℕ) → text ≡ answer_bytes answer.Unavailable → new ≡ old
      → ServesMessage store now bytes text old new
  message_unread old new now bytes text text_is same =
      let P : Service S → Type 0 = λ s. ServesMessage store now bytes text old s in
      subst P (sym same) (record { answer = answer.Unavailable; text_is = text_is; serves = unread store now bytes old })

  pub served_stands : (whole : Service S → List ℕ → Type 0) (handles : Service S → ℕ → List ℕ → List ℕ → Service S → Type 0)
      → ((old : Service S) (now : ℕ) (bytes text : List ℕ) (new : Service S) → handles old now bytes text new → Does store old now bytes text new)
      → (old new : Service S) (now : ℕ) (bytes text : List ℕ) (rest : Option (List ℕ)) → IsAnswered whole handles rest old now bytes text new
      → ServesMessage store now bytes text old new
  served_stands whole handles does old new now bytes text rest (inl (is_whole, handled)) = message_served old new now bytes text (does old now bytes text new handled)
  served_stands whole handles does old new now bytes text rest (inr (text_is, same, some)) = message_unread old new now bytes text text_is same

-- ---- one message after others

-- a service that handled nothing
pub none_served : {S : Type 0} (store : Parts S) (s : Service S) → ServesInTurn store [] s s
none_served store s = record {
  key = refl;
  was_clean = λ clean. clean;
  was_honest = λ honest. honest;
  was_open = λ clean none. absurd none;
  stays_kept = λ honest kept. kept;
  handled = λ honest kept. stays_sound (store.holds (store_of s));
  left = λ h may. inl may;
  stands = λ key points before st clean. st;
  reopens = λ kept reopens. reopens;
}

-- these messages, and then one more
pub served_then : {S : Type 0} (store : Parts S) (came : List Came) (c : Came) (old mid new : Service S) → ServesInTurn store came old mid → ServesOne store c mid new
    → ServesInTurn store (c ∷ came) old new
served_then store came c old mid new first one = record {
  key = one.key ∙ first.key;
  was_clean = λ clean. first.was_clean (one.was_clean clean);
  was_honest = λ honest. first.was_honest (one.was_honest honest);
  was_open = λ clean some. elim some [ inl response ↦ first.was_honest (one.was_open clean (inl response)) | inr earlier ↦ first.was_open (one.was_clean clean) earlier ];
  stays_kept = λ honest kept. one.stays_kept honest (first.stays_kept (one.was_honest honest) kept);
  handled = λ honest kept.
      let before = one.was_honest honest in
      let Handled : List ℕ → Type 0 = λ key. HandledAs key c.arrival.bytes c.arrival.now c.answer (store.holds (store_of mid)) (store.holds (store_of new)) in
      (store.holds (store_of mid), first.handled before kept, subst Handled first.key (one.handled honest (first.stays_kept before kept)));
  left = λ h may. elim (one.left h may) [
    | inl earlier ↦ first.left h earlier
    | inr ahead ↦
        let before = first.was_honest ahead.0 in
        inr (
          before,
          λ kept.
              let last = ahead.1 (first.stays_kept ahead.0 kept) in
              let Over : List ℕ → Type 0 = λ key. HandledOverStops key last.0 (store.holds (store_of mid)) h in
              (last.0 ++ came ∷ [], stretches_on (operator_key_of old) last.0 came (store.holds (store_of old)) (store.holds (store_of mid)) h (first.handled ahead.0 kept) (subst Over first.key last.1)),
        )
  ];
  stands = λ key points before st clean. one.stands key points (came ++ before) (first.stands key points before st (one.was_clean clean)) clean;
  reopens = λ kept reopens. one.reopens (λ honest. first.stays_kept honest (kept (first.was_honest honest))) (first.reopens kept reopens);
}

-- What a store owes after a read, as its laws say. The service keeps its key.
pub served_read : {S : Type 0} (store : Parts S)
    → ((a b : S) → store.reads a b → store.clean b → store.clean a)
    → ((a b : S) → store.reads a b → store.honest b → store.honest a)
    → ((a b : S) → store.reads a b → store.honest b → store.well_kept a → store.well_kept b)
    → ((a b : S) → store.reads a b → store.honest b → store.well_kept a → IsLeft (store.holds a) (store.holds b))
    → ((a b : S) → store.reads a b → (h : Held) → store.may_leave b h → store.may_leave a h)
    → ((a b : S) → store.reads a b → (store.honest a → store.well_kept a) → store.reopens a → store.reopens b)
    → ReadsStand store
    → (came : List Came) (old mid new : Service S) → store.reads (store_of mid) (store_of new) → operator_key_of new ≡ operator_key_of mid → ServesInTurn store came old mid → ServesInTurn store came old new
served_read store stays_clean stays_honest stays_kept stays_held stays_left stays_reopened reads_stand came old mid new reads same first = record {
  key = same ∙ first.key;
  was_clean = λ clean. first.was_clean (stays_clean (store_of mid) (store_of new) reads clean);
  was_honest = λ honest. first.was_honest (stays_honest (store_of mid) (store_of new) reads honest);
  was_open = λ clean some. first.was_open (stays_clean (store_of mid) (store_of new) reads clean) some;
  stays_kept = λ honest kept. stays_kept (store_of mid) (store_of new) reads honest (first.stays_kept (stays_honest (store_of mid) (store_of new) reads honest) kept);
  handled = λ honest kept.
      let before = stays_honest (store_of mid) (store_of new) reads honest in
      let left = stays_held (store_of mid) (store_of new) reads honest (first.stays_kept before kept) in
      subst (λ h. HandledInTurn (operator_key_of old) came (store.holds (store_of old)) h) (sym (left_is (store.holds (store_of mid)) (store.holds (store_of new)) left)) (first.handled before kept);
  left = λ h may. first.left h (stays_left (store_of mid) (store_of new) reads h may);
  stands = λ key points before st clean.
      let there = first.stands key points before st (stays_clean (store_of mid) (store_of new) reads clean) in record {
        keyed = λ honest. there.keyed (stays_honest (store_of mid) (store_of new) reads honest) ∙ sym same;
        stands = reads_stand (store_of mid) (store_of new) reads key points (came ++ before) there.stands;
      };
  reopens = λ kept reopens.
      stays_reopened (store_of mid) (store_of new) reads (λ honest. first.stays_kept honest (kept (first.was_honest honest))) (first.reopens kept reopens);
}

-- these messages, and then a connection
pub served_connection : {S : Type 0} (store : Parts S) (connections : List (Option Came)) (next : Option Came) (old mid new : Service S)
    → ServesInTurn store (messages_of connections) old mid → ServesConnection store next mid new → ServesInTurn store (messages_of (next ∷ connections)) old new
served_connection store connections None old mid new first same = subst (ServesInTurn store (messages_of connections) old) (sym same) first
served_connection store connections (Some c) old mid new first one = served_then store (messages_of connections) c old mid new first one

-- there are at most as many messages as connections
pub messages_at_most : (connections : List (Option Came)) → length (messages_of connections) ≤ length connections
messages_at_most [] = omega arith
messages_at_most (None ∷ connections) = omega (arith, messages_at_most connections)
messages_at_most (Some c ∷ connections) = omega (arith, messages_at_most connections)
