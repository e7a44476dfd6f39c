-- A message of bytes: what it means is served, and the response is the one for the answer.
use Rattle.std.proofs.Common.{◌≡◌, true, inl, inr, ℕ, List, refl, sym, ap, subst, true≢false}
use Rattle.std.specs.Prelude.{Option, Some, None, Result, Ok, Err, is_ok, IfOk, OnErr}
use Rattle.http_messages.specs.Deciding.{Asked}
use Rattle.http_messages.specs.Meaning.{Means}
use Rattle.http_responses.specs.declared.answer.Answer as given
use Rattle.http_responses.specs.declared.answer.Answer.TheVariants as answer
use Rattle.http_responses.specs.declared.method.Method.{Method}
use Rattle.rpc_records.specs.declared.fault.Fault.{Fault}
use Rattle.sched_book.specs.declared.desk.Unavailable.{Unavailable}
use Rattle.stores.specs.Held.{Held, IsLeft}
use Rattle.pasts.specs.Messages.{Said, Message, heard_now}
use Rattle.pasts.specs.Stands.{Same, ServesAs, told_by}
use Rattle.pasts.specs.declared.answer.AnswerContent as told
use Rattle.pasts.specs.declared.answer.AnswerContent.TheVariants as tells
use Rattle.message_engine.specs.Stores.{tables_by, IsServed, ServesIn}
use Rattle.message_engine.proofs.EntriesKept.{left_same, left_sound}
use Rattle.sched_server.specs.Answering.{IsRefusal, Responds}
use Rattle.sched_server.specs.Handled.{is_answered, response_to, StaysSound, HandledAs, IsHandled}
use Rattle.sched_server.specs.Meanings.{SaysInThisEra, allowed_by}

-- an answer that is no good body
abbrev NotGood : told.AnswerContent → Type 0
NotGood (tells.Good body) = ⊥
NotGood (tells.Statement text) = Unit {0}
NotGood (tells.Refusal fault) = Unit {0}

-- a refusal changes nothing, since what commits is answered by a good body
refusal_leaves_as : (o : Option told.AnswerContent) (old new : Held) (m : Message) (fault : Fault)
    → ServesAs o (tables_by old) m (tells.Refusal fault) (tables_by new)
    → Same (tables_by new) (tables_by old)
refusal_leaves_as (Some t) old new m fault serves = serves.1
refusal_leaves_as None old new m fault serves = absurd (subst NotGood serves.answer_is tt)

refusal_leaves : (old new : Held) (m : Message) (t : told.AnswerContent) → IsRefusal t
    → ServesIn m t old new → StaysSound old new
refusal_leaves old new m t refuses serves sound =
    let P : told.AnswerContent → Type 0 = λ x. ServesAs (told_by (tables_by old) m.said) (tables_by old) m x (tables_by new) in
    let served = serves sound in
    (refusal_leaves_as (told_by (tables_by old) m.said) old new m refuses.0 (subst P refuses.1 served.serves), served.sound)

-- what holds of the answer, if the result is this one
told_in : (P : told.AnswerContent → Type 0) (r : Result told.AnswerContent Unavailable) (t : told.AnswerContent) → r ≡ Ok t → IfOk r P → P t
told_in P r t is holds = let Q : Result told.AnswerContent Unavailable → Type 0 = λ x. IfOk x P in subst Q is holds

left_in : (A : Type 0) (r : Result told.AnswerContent Unavailable) (e : Unavailable) → r ≡ Err e → OnErr r A → A
left_in A r e is holds = let Q : Result told.AnswerContent Unavailable → Type 0 = λ x. OnErr x A in subst Q is holds

unanswered : (key bytes : List ℕ) (now : ℕ) (asked : Asked) (old new : Held)
    (r : Result told.AnswerContent Unavailable)
    → IfOk r (λ t. (said : Said) × SaysInThisEra asked said × ServesIn (heard_now now said) t old new)
    → OnErr r (IsLeft old new)
    → Responds (allowed_by asked) r answer.Unavailable
    → HandledAs key bytes now answer.Unavailable old new
unanswered key bytes now asked old new r serves left (inl failed) sound =
    let is_left = left_in (IsLeft old new) r failed.0 failed.1 left in
    (left_same old new is_left, left_sound old new is_left sound)
unanswered key bytes now asked old new r serves left (inr refused) sound =
    let P : told.AnswerContent → Type 0 = λ t. (said : Said) × SaysInThisEra asked said × ServesIn (heard_now now said) t old new in
    let done = told_in P r refused.0 refused.1 serves in
    refusal_leaves old new (heard_now now done.0) refused.0 refused.2 done.2 sound

handled_by : (key bytes : List ℕ) (now : ℕ) (asked : Asked) (old new : Held)
    (r : Result told.AnswerContent Unavailable) (a : given.Answer) → Means key bytes asked
    → IfOk r (λ t. (said : Said) × SaysInThisEra asked said × ServesIn (heard_now now said) t old new)
    → OnErr r (IsLeft old new)
    → Responds (allowed_by asked) r a
    → HandledAs key bytes now a old new
handled_by key bytes now asked old new r answer.Unavailable means serves left responds =
    unanswered key bytes now asked old new r serves left responds
handled_by key bytes now asked old new r (answer.Response response) means serves left responds =
    let P : told.AnswerContent → Type 0 = λ t. (said : Said) × SaysInThisEra asked said × ServesIn (heard_now now said) t old new in
    let done = told_in P r responds.0 responds.1 serves in
    record {
      asked = asked;
      said = done.0;
      told = responds.0;
      means = means;
      says = done.1;
      serves = done.2;
      response = responds.2;
    }

pub handled : (key bytes : List ℕ) (now : ℕ) (asked : Asked) (allowed : Option Method) (old new : Held)
    (r : Result told.AnswerContent Unavailable) (a : given.Answer) → Means key bytes asked → allowed ≡ allowed_by asked
    → IfOk r (λ t. (said : Said) × SaysInThisEra asked said × ServesIn (heard_now now said) t old new)
    → OnErr r (IsLeft old new)
    → Responds allowed r a
    → HandledAs key bytes now a old new
handled key bytes now asked allowed old new r a means allows serves left responds =
    let P : Option Method → Type 0 = λ o. Responds o r a in
    handled_by key bytes now asked old new r a means serves left (subst P allows responds)

-- if the answer is a response, the engine gave an answer
pub told_well : (allowed : Option Method) (r : Result told.AnswerContent Unavailable) (a : given.Answer) → Responds allowed r a → is_answered a ≡ true → is_ok r ≡ true
told_well allowed r answer.Unavailable responds is = absurd (true≢false (sym is))
told_well allowed r (answer.Response response) responds is = ap is_ok responds.1

-- a message whose meaning was served was handled
pub is_handled : (key bytes : List ℕ) (now : ℕ) (asked : Asked) (old new : Held) → Means key bytes asked
    → ((said : Said) × SaysInThisEra asked said × IsServed (heard_now now said) old new)
    → IsHandled key bytes now old new
is_handled key bytes now asked old new means served = (
  response_to (allowed_by asked) served.2.0,
  record {
    asked = asked;
    said = served.0;
    told = served.2.0;
    means = means;
    says = served.1;
    serves = served.2.1;
    response = refl;
  },
)
