-- Promise. The routes of requests, by their paths. (This profile's.)
use Rattle.std.specs.Prelude.{ℕ, Bool, ◌&&◌, ◌==◌, nat_eq, nat_lt, not, if◌then◌else◌, List, take, drop, length, codes, Option, Some, None, position, ◌+◌}
use Rattle.std.specs.List.{before_first, list_any, starts_with}
use Rattle.std.specs.Str.{bytes_eq}
use Rattle.texts.specs.Words.{is_word}
use Rattle.stores.specs.Kinds.{kind_of}
use Rattle.stores.specs.declared.kind.Kind.{Kind}
use Rattle.http_messages.specs.declared.route_kind.RouteKind.{RouteKind}
use Rattle.http_messages.specs.declared.route_kind.RouteKind.TheVariants as at
use Rattle.http_messages.specs.declared.routes.Route.{Route as RouteRead}
use Rattle.http_messages.specs.declared.routes.Route.TheVariants as read

-- where a request goes, with what its path names
pub data Route : Type 0 where
  scheduler : Route
  import : (kind : Kind) (batch : List ℕ) → Route
  tick : Route
  hosts : (id : List ℕ) → Route

abbrev pub kind_of_route : Route → RouteKind
kind_of_route scheduler = at.Scheduler
kind_of_route (import kind batch) = at.Import
kind_of_route tick = at.Tick
kind_of_route (hosts id) = at.Hosts

-- the path of a target: up to the first `?` (RFC 3986, section 3.3)
abbrev pub path_of : List ℕ → List ℕ
path_of target = before_first (λ b. b == 63) target

abbrev pub is_slash : ℕ → Bool
is_slash b = b == 47

-- one part of a path: at least one byte, and no slash
abbrev pub is_part : List ℕ → Bool
is_part text = nat_lt 0 (length text) && not (list_any is_slash text)

abbrev pub hosts_of : List ℕ → Option Route
hosts_of id = if is_part id then Some (hosts id) else None

abbrev pub import_with : Option Kind → List ℕ → Option Route
import_with None batch = None
import_with (Some kind) batch = if is_word batch then Some (import kind batch) else None

-- KIND/BATCH, split at a slash
abbrev pub import_at : List ℕ → Option ℕ → Option Route
import_at text None = None
import_at text (Some slash) = import_with (kind_of (take slash text)) (drop (slash + 1) text)

abbrev pub import_of : List ℕ → Option Route
import_of text = import_at text (position is_slash text)

-- the route of a path: `/scheduler`, `/tick`, `/hosts/ID` or `/import/KIND/BATCH`
abbrev pub route_of : List ℕ → Option Route
route_of path =
    if bytes_eq path (codes "/scheduler") then Some scheduler
    else (if bytes_eq path (codes "/tick") then Some tick
    else (if starts_with nat_eq path (codes "/hosts/") then hosts_of (drop 7 path)
    else (if starts_with nat_eq path (codes "/import/") then import_of (drop 8 path)
    else None)))

-- the route that was read
abbrev pub route_seen : RouteRead → Route
route_seen read.Scheduler = scheduler
route_seen (read.Import kind batch) = import kind batch.now
route_seen read.Tick = tick
route_seen (read.Hosts id) = hosts id.now
