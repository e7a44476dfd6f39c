use Rattle.std.proofs.Common.{ap, ◌∙◌}
use Rattle.http_requests.specs.Requests.{import_request}
use Rattle.commands.proofs.answering.import_message.Goals as goal

pub returns : goal.returns
returns g c = (
  c.in_ok-text.text.items,
  c.in_ok-text.ensures,
  c.in_ok-message.ensures ∙ ap (import_request c.args.key.now c.args.kind.now c.args.batch.now) c.deref.ensures.value,
)
