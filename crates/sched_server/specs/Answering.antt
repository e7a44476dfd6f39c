-- Words. How the HTTP answer follows from the engine's answer. (This project's own.)
use Rattle.std.specs.Prelude.{◌≡◌, ◌⊎◌, Option, Result, Ok, Err}
use Rattle.http_responses.specs.declared.answer.Answer.{Answer}
use Rattle.http_responses.specs.declared.answer.Answer.TheVariants as answer
use Rattle.http_responses.specs.declared.method.Method.{Method}
use Rattle.rpc_records.specs.declared.fault.Fault.{Fault}
use Rattle.sched_book.specs.declared.desk.Unavailable.{Unavailable}
use Rattle.pasts.specs.declared.answer.AnswerContent as told
use Rattle.pasts.specs.declared.answer.AnswerContent.TheVariants as tells
use Rattle.sched_server.specs.Handled.{response_to}

abbrev pub IsRefusal : told.AnswerContent → Type 0
IsRefusal t = (fault : Fault) × (t ≡ tells.Refusal fault)

-- The HTTP answer is unavailable if the engine gave no answer, or if there was no memory for a refusal. Otherwise it is the response to the
-- engine's answer.
abbrev pub Responds : Option Method → Result told.AnswerContent Unavailable → Answer → Type 0
Responds allowed r answer.Unavailable = ((e : Unavailable) × (r ≡ Err e)) ⊎ ((t : told.AnswerContent) × (r ≡ Ok t) × IsRefusal t)
Responds allowed r (answer.Response response) = (t : told.AnswerContent) × (r ≡ Ok t) × (response ≡ response_to allowed t)
