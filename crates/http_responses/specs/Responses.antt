-- Rule. Responses and their bytes: a status line, fields, an empty line, and the body (RFC 9112, section 2.1). Lines end with CR LF.
use Rattle.std.specs.Prelude.{ℕ, List, [], ◌++◌, length, codes, decimal, unwrap_or, Option, Some, None}
use Rattle.http.specs.StatusCode.{code_digits, reason_phrase}
use Rattle.rpc_records.specs.Replies.{http_status_of, fault_text_of}
use Rattle.rpc_records.specs.declared.fault.Fault.{Fault}
use Rattle.rpc_records.specs.declared.fault.Fault.TheVariants.{WrongMethod}
use Rattle.http_responses.specs.Methods.{method_name}
use Rattle.http_responses.specs.declared.method.Method.{Method}
use Rattle.http_responses.specs.declared.media.Media.{Media}
use Rattle.http_responses.specs.declared.media.Media.TheVariants.{Json, Csv}
use Rattle.http_responses.specs.declared.response.Response.{Response}

-- ---- bytes

-- The phrase of a status code. (RFC 9110, section 15.)
unfoldable pub phrase_of : ℕ → List ℕ
phrase_of status = unwrap_or (reason_phrase status) []

-- The first line. (RFC 9112, section 4.)
unfoldable pub status_line : ℕ → List ℕ
status_line status = codes "HTTP/1.1 " ++ (code_digits status ++ (codes " " ++ (phrase_of status ++ codes "\r\n")))

-- The line of one field. (RFC 9112, section 5.)
unfoldable pub field_line : (name value : List ℕ) → List ℕ
field_line name value = name ++ (codes ": " ++ (value ++ codes "\r\n"))

-- The media type of a body. (RFC 8259, section 11, and RFC 4180, section 3.)
abbrev pub media_type : Media → List ℕ
media_type Json = codes "application/json"
media_type Csv = codes "text/csv"

-- Which method the target allows, if another one came. (RFC 9110, section 10.2.1.)
abbrev pub allow_line : Option Method → List ℕ
allow_line None = []
allow_line (Some allowed) = field_line (codes "allow") (method_name allowed)

-- Everything before a body of this size. (RFC 9112, sections 2.1, 6.2 and 9.6.)
unfoldable pub head_text : (status : ℕ) (allow : Option Method) (media : Media) (size : ℕ) → List ℕ
head_text status allow media size =
    status_line status
    ++ (allow_line allow
    ++ (field_line (codes "content-type") (media_type media)
    ++ (field_line (codes "content-length") (decimal size)
    ++ (field_line (codes "connection") (codes "close")
    ++ codes "\r\n"))))

-- Everything before the body of a response.
abbrev pub head_of : Response → List ℕ
head_of response = head_text response.status response.allow response.media (length response.body)

-- All bytes of a response.
unfoldable pub response_text : Response → List ℕ
response_text response = head_of response ++ response.body

-- ---- the responses that there are

-- A good answer.
abbrev pub good_response : List ℕ → Response
good_response body = record { status = 200; allow = None; media = Json; body = body }

-- A host's statement.
abbrev pub statement_response : List ℕ → Response
statement_response body = record { status = 200; allow = None; media = Csv; body = body }

-- A refusal.
abbrev pub refusal_response : Fault → Response
refusal_response fault = record { status = http_status_of fault; allow = None; media = Json; body = fault_text_of fault }

-- The refusal of a method, if the target allows another.
abbrev pub wrong_method_response : Method → Response
wrong_method_response allowed = record (refusal_response WrongMethod) { allow = Some allowed }
