-- Promise. What one message of bytes does to a store, and the response that answers it. (The forms of responses are RFC 9112's; the rest is
-- this profile's.)
use Rattle.std.specs.Prelude.{◌≡◌, ℕ, Bool, true, false, List, Option, Some, None}
use Rattle.http_messages.specs.Deciding.{Asked}
use Rattle.http_messages.specs.Meaning.{Means}
use Rattle.http_responses.specs.Responses.{good_response, statement_response, refusal_response, wrong_method_response}
use Rattle.http_responses.specs.declared.answer.Answer.{Answer}
use Rattle.http_responses.specs.declared.answer.Answer.TheVariants as answer
use Rattle.http_responses.specs.declared.method.Method.{Method}
use Rattle.http_responses.specs.declared.response.Response.{Response}
use Rattle.rpc_records.specs.declared.fault.Fault.{Fault}
use Rattle.stores.specs.Held.{Held}
use Rattle.pasts.specs.Messages.{Said, heard_now}
use Rattle.pasts.specs.Stands.{Same}
use Rattle.pasts.specs.declared.answer.AnswerContent as told
use Rattle.pasts.specs.declared.answer.AnswerContent.TheVariants as tells
use Rattle.message_engine.specs.Stores.{tables_by, IsSoundStore, ServesIn}
use Rattle.sched_server.specs.Meanings.{SaysInThisEra, allowed_by}

-- the response to a refusal; for a wrong method it names the method that the route takes
abbrev pub refusal_to : Option Method → Fault → Response
refusal_to None fault = refusal_response fault
refusal_to (Some allowed) fault = wrong_method_response allowed

-- the response to an answer
abbrev pub response_to : Option Method → told.AnswerContent → Response
response_to allowed (tells.Good body) = good_response body
response_to allowed (tells.Statement text) = statement_response text
response_to allowed (tells.Refusal fault) = refusal_to allowed fault

-- The bytes of a message mean what it asks for. That says something to the scheduler, which is served. The response is the one for its
-- answer.
pub record Handles (key bytes : List ℕ) (now : ℕ) (r : Response) (old new : Held) : Type 0 where
  pub asked : Asked
  pub said : Said
  pub told : told.AnswerContent
  pub means : Means key bytes asked
  pub says : SaysInThisEra asked said
  pub serves : ServesIn (heard_now now said) told old new
  pub response : r ≡ response_to (allowed_by asked) told

-- a sound store holds what it held, and is still sound
abbrev pub StaysSound : Held → Held → Type 0
StaysSound old new = IsSoundStore old → Same (tables_by new) (tables_by old) × IsSoundStore new

-- whether the answer is a response
abbrev pub is_answered : Answer → Bool
is_answered answer.Unavailable = false
is_answered (answer.Response r) = true

-- If the answer is unavailable, nothing was changed. Any other answer is the response to the message.
abbrev pub HandledAs : List ℕ → List ℕ → ℕ → Answer → Held → Held → Type 0
HandledAs key bytes now answer.Unavailable old new = StaysSound old new
HandledAs key bytes now (answer.Response r) old new = Handles key bytes now r old new

-- the message was handled, with some response, which maybe nobody read
abbrev pub IsHandled : List ℕ → List ℕ → ℕ → Held → Held → Type 0
IsHandled key bytes now old new = (r : Response) × Handles key bytes now r old new
