use Rattle.http_messages.specs.Meaning.{message_seen}
use Rattle.sched_server.proofs.handling.ServiceHandler.missing.Goals as goal

pub returns-clause-none : goal.returns-clause-none
returns-clause-none g c = λ none. (message_seen c.heard.result.message, c.heard.ensures.settled none)
