-- Rule. What each route asks of a request. (This profile's.)
use Rattle.std.specs.Prelude.{ℕ, Bool, true, false, List, codes}
use Rattle.http_responses.specs.declared.method.Method.{Method}
use Rattle.http_responses.specs.declared.method.Method.TheVariants.{Get, Post}
use Rattle.http_messages.specs.declared.route_kind.RouteKind.{RouteKind}
use Rattle.http_messages.specs.declared.route_kind.RouteKind.TheVariants.{Scheduler, Import, Tick, Hosts}

-- the name of a method in a request (RFC 9110, section 9.1)
abbrev pub method_text : Method → List ℕ
method_text Get = codes "GET"
method_text Post = codes "POST"

-- the one method that it takes
abbrev pub method_of : RouteKind → Method
method_of Scheduler = Post
method_of Import = Post
method_of Tick = Post
method_of Hosts = Get

-- only the operator may use it
abbrev pub needs_key : RouteKind → Bool
needs_key Scheduler = false
needs_key Import = true
needs_key Tick = true
needs_key Hosts = true

-- the most bytes of its body; a statement has none
abbrev pub most_bytes : RouteKind → ℕ
most_bytes Scheduler = 262144
most_bytes Import = 1048576
most_bytes Tick = 262144
most_bytes Hosts = 0
