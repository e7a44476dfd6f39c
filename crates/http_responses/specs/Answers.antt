-- Rule. The answer to a message.
use Rattle.std.specs.Prelude.{ℕ, List}
use Rattle.rpc_records.specs.declared.fault.Fault.TheVariants as fault
use Rattle.http_responses.specs.Responses.{refusal_response, response_text}
use Rattle.http_responses.specs.declared.answer.Answer.{Answer}
use Rattle.http_responses.specs.declared.answer.Answer.TheVariants as answer
use Rattle.http_responses.specs.declared.response.Response.{Response}

-- The response for an answer. A lack of memory is a refusal like any other.
abbrev pub response_of : Answer → Response
response_of answer.Unavailable = refusal_response fault.Unavailable
response_of (answer.Response response) = response

-- All bytes of an answer.
abbrev pub answer_bytes : Answer → List ℕ
answer_bytes answer = response_text (response_of answer)
