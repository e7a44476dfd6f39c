-- Promise. How long the body of a request is (RFC 9112, section 6): here only Content-Length gives it.
use Rattle.std.specs.Prelude.{ℕ, nat_le, if◌then◌else◌, List, codes, Option, Some, None, Result, Ok, Err}
use Rattle.rpc_records.specs.declared.fault.Fault.{Fault}
use Rattle.rpc_records.specs.declared.fault.Fault.TheVariants.{BadHttp, LengthRequired, TooLarge}
use Rattle.http_messages.specs.Fields.{Told, absent, once, often, field_named, is_told}
use Rattle.http_messages.specs.Numbers.{length_in}
use Rattle.http_messages.specs.RouteKinds.{most_bytes}
use Rattle.http_messages.specs.declared.route_kind.RouteKind.{RouteKind}
use Rattle.http_messages.specs.declared.route_kind.RouteKind.TheVariants.{Scheduler, Import, Tick, Hosts}

-- if no length is given, the body of a tick is empty
abbrev pub length_if_absent : RouteKind → Result ℕ Fault
length_if_absent Scheduler = Err LengthRequired
length_if_absent Import = Err LengthRequired
length_if_absent Tick = Ok 0
length_if_absent Hosts = Err LengthRequired

abbrev pub length_within : ℕ → Option ℕ → Result ℕ Fault
length_within most None = Err BadHttp
length_within most (Some bytes) = if nat_le bytes most then Ok bytes else Err TooLarge

-- the length, from what the fields Content-Length say
abbrev pub length_from_field : RouteKind → Told → Result ℕ Fault
length_from_field route_kind absent = length_if_absent route_kind
length_from_field route_kind (once value) = length_within (most_bytes route_kind) (length_in value)
length_from_field route_kind often = Err BadHttp

-- the length of a body that is sent
abbrev pub sent_length : RouteKind → List (List ℕ × List ℕ) → Result ℕ Fault
sent_length route_kind fields =
    if is_told (field_named (codes "transfer-encoding") fields) then Err LengthRequired
    else length_from_field route_kind (field_named (codes "content-length") fields)

-- the length of the body, from the head's fields; the body of a GET is not read
abbrev pub body_length : RouteKind → List (List ℕ × List ℕ) → Result ℕ Fault
body_length Scheduler fields = sent_length Scheduler fields
body_length Import fields = sent_length Import fields
body_length Tick fields = sent_length Tick fields
body_length Hosts fields = Ok 0
