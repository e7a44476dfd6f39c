-- Words. A decision of the code, as the definitions have it.
use Rattle.http_messages.specs.Deciding.{Decision, at_once, with_body}
use Rattle.http_messages.specs.Meaning.{message_seen}
use Rattle.http_messages.specs.Routing.{route_seen}
use Rattle.http_messages.specs.declared.deciding.Decision.{Decision as DecisionMade}
use Rattle.http_messages.specs.declared.deciding.Decision.TheVariants as made

abbrev pub decision_seen : DecisionMade → Decision
decision_seen (made.AtOnce message) = at_once (message_seen message)
decision_seen (made.WithBody route bytes) = with_body (route_seen route) bytes
