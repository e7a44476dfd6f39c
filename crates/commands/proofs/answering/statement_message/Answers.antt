use Rattle.std.proofs.Common.{ap, ◌∙◌}
use Rattle.http_requests.specs.Requests.{statement_request}
use Rattle.commands.proofs.answering.statement_message.Goals as goal

pub returns : goal.returns
returns c = c.in_ok-message.ensures ∙ ap (statement_request c.args.key.now) (c.as_str.ensures.value ∙ c.in_ok-number.ensures)
