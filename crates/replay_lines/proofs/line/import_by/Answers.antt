use Rattle.std.proofs.Common.{◌∙◌, Some, ap}
use Rattle.http_requests.specs.Requests.{import_request}
use Rattle.replay_lines.proofs.line.import_by.Goals as goal

pub returns : goal.returns
returns c = rw (c.in-Some-Some-Some.is-0, c.in-Some-Some-Some.is-1, c.in-Some-Some-Some.is-2) (
    ap Some (c.of.ensures ∙ c.in_ok-message.ensures
    ∙ ap (import_request c.args.key.now c.in-Some-Some-Some.kind.now c.in-Some-Some-Some.batch.now) c.as_bytes.ensures.value))
