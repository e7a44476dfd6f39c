use Rattle.std.proofs.Common.{◌∙◌}
use Rattle.http_messages.proofs.RouteLemmas.{found_is_route}
use Rattle.http_messages.proofs.routes.route_of.Goals as goal

pub returns : goal.returns
returns c = c.found_route.ensures ∙ found_is_route c.args.path.now
