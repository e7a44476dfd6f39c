-- Rule. The router of the routes, as `matchit` keeps it.
use Rattle.std.specs.Prelude.{ℕ, List, [], codes, drop, nat_eq, if◌then◌else◌, Option, Some, None, option_map, option_and_then, Result, Ok, Err}
use Rattle.std.specs.List.{starts_with}
use Rattle.matchit.specs.Order.{placed}
use Rattle.matchit.specs.Route.{Scan, parse_route}
use Rattle.matchit.specs.Router.{RouteOf, route_from}
use Rattle.matchit.specs.Rows.{RowsOf}
use Rattle.matchit.specs.Seek.{first}
use Rattle.matchit.specs.declared.error.InsertError.{InsertError}
use Rattle.http_messages.specs.Routing.{Route, scheduler, tick, hosts, import_of}
use Rattle.http_messages.specs.declared.route_kind.RouteKind.{RouteKind}
use Rattle.http_messages.specs.declared.route_kind.RouteKind.TheVariants.{Scheduler, Import, Tick, Hosts}

-- the routes with one more, if its text is that of a route
abbrev pub with_route : Result Scan InsertError → RouteKind → RowsOf (RouteOf RouteKind) → RowsOf (RouteOf RouteKind)
with_route (Ok scan) route_kind rows = placed (scan.pattern, route_from scan route_kind) rows
with_route (Err e) route_kind rows = rows

abbrev pub the_routes : RowsOf (RouteOf RouteKind)
the_routes =
    with_route (parse_route (codes "/hosts/{id}")) Hosts
    (with_route (parse_route (codes "/tick")) Tick
    (with_route (parse_route (codes "/import/{kind}/{batch}")) Import
    (with_route (parse_route (codes "/scheduler")) Scheduler [])))

-- the kind of route that the router finds for a path
abbrev pub found_route_kind : List ℕ → Option RouteKind
found_route_kind path = option_map (λ route. route.value) (first the_routes path)

-- the route of a kind, from what the path names
abbrev pub route_at : RouteKind → List ℕ → Option Route
route_at Scheduler path = Some scheduler
route_at Import path = if starts_with nat_eq path (codes "/import/") then import_of (drop 8 path) else None
route_at Tick path = Some tick
route_at Hosts path = if starts_with nat_eq path (codes "/hosts/") then Some (hosts (drop 7 path)) else None

abbrev pub found_route : List ℕ → Option Route
found_route path = option_and_then (λ route_kind. route_at route_kind path) (found_route_kind path)
