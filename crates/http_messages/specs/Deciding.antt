-- Promise. What a request asks for, and which check refuses it first.
use Rattle.std.specs.Prelude.{ℕ, Bool, false, ◌&&◌, not, nat_lt, ◌-◌, if◌then◌else◌, List, length, take, map, codes, Option, Some, None, Result, Ok, Err}
use Rattle.std.specs.Str.{bytes_eq}
use Rattle.httparse.specs.Grammar.{RequestHead}
use Rattle.httparse.specs.Spans.{name_and_value}
use Rattle.http_responses.specs.declared.method.Method.{Method}
use Rattle.stores.specs.declared.kind.Kind.{Kind}
use Rattle.rpc_records.specs.declared.fault.Fault.{Fault}
use Rattle.rpc_records.specs.declared.fault.Fault.TheVariants.{BadHttp, NoRoute, NotOperator, NoSuchHost}
use Rattle.http_messages.specs.Bodies.{body_length}
use Rattle.http_messages.specs.Fields.{Told, absent, once, often, field_named}
use Rattle.http_messages.specs.Numbers.{host_in}
use Rattle.http_messages.specs.RouteKinds.{method_text, method_of, needs_key}
use Rattle.http_messages.specs.Routing as routing
use Rattle.http_messages.specs.Routing.{Route, kind_of_route, path_of, route_of}

-- What a message asks for: a call of a host with its body; an import with its bytes; a tick; the statement of a host. Or the route takes
-- another method, this one. Or the message is refused for another fault of its bytes.
pub data Asked : Type 0 where
  call : (body : List ℕ) → Asked
  import : (kind : Kind) (batch text : List ℕ) → Asked
  tick : Asked
  statement : (host : ℕ) → Asked
  wrong_method : (allowed : Method) → Asked
  refused : (fault : Fault) → Asked

-- What a head decides: either what is asked, with any bytes after it, or its route and the length of its body.
pub data Decision : Type 0 where
  at_once : (asked : Asked) → Decision
  with_body : (route : Route) (bytes : ℕ) → Decision

-- exactly one field has a key, and it is the operator's
abbrev pub is_key : List ℕ → Told → Bool
is_key key absent = false
is_key key (once value) = bytes_eq value key
is_key key often = false

abbrev pub is_operator : List ℕ → List (List ℕ × List ℕ) → Bool
is_operator key fields = is_key key (field_named (codes "x-operator-key") fields)

abbrev pub decided_length : Route → Result ℕ Fault → Decision
decided_length route (Err fault) = at_once (refused fault)
decided_length route (Ok bytes) = with_body route bytes

-- on a route the checks are: the method, then the operator's key, then the length of the body
abbrev pub decided_on : List ℕ → List ℕ → List (List ℕ × List ℕ) → Route → Decision
decided_on key method fields route =
    if not (bytes_eq method (method_text (method_of (kind_of_route route)))) then at_once (wrong_method (method_of (kind_of_route route)))
    else (if needs_key (kind_of_route route) && not (is_operator key fields) then at_once (refused NotOperator)
    else decided_length route (body_length (kind_of_route route) fields))

abbrev pub decided_for : List ℕ → List ℕ → List (List ℕ × List ℕ) → Option Route → Decision
decided_for key method fields None = at_once (refused NoRoute)
decided_for key method fields (Some route) = decided_on key method fields route

-- what a head decides, if this is the operator's key
abbrev pub head_decision : List ℕ → RequestHead → Decision
head_decision key h = decided_for key h.method (map name_and_value h.fields) (route_of (path_of h.target))

abbrev pub statement_of : Option ℕ → Asked
statement_of None = refused NoSuchHost
statement_of (Some host) = statement host

-- what is asked on a route with a whole body
abbrev pub asked_on : Route → List ℕ → Asked
asked_on routing.scheduler body = call body
asked_on (routing.import kind batch) body = import kind batch body
asked_on routing.tick body = tick
asked_on (routing.hosts id) body = statement_of (host_in id)

-- there are fewer bytes after the head than the body has
abbrev pub is_cut : Decision → List ℕ → Bool
is_cut (at_once asked) rest = false
is_cut (with_body route bytes) rest = nat_lt (length rest) bytes

-- how many bytes of the body are missing after the head
abbrev pub missing : Decision → List ℕ → ℕ
missing (at_once asked) rest = 0
missing (with_body route bytes) rest = bytes - length rest

-- what is asked with these bytes after the head; those after the body are ignored
abbrev pub asked_with : Decision → List ℕ → Asked
asked_with (at_once asked) rest = asked
asked_with (with_body route bytes) rest =
    if nat_lt (length rest) bytes then refused BadHttp else asked_on route (take bytes rest)
