use Rattle.std.proofs.Common.{◌∙◌, subst}
use Rattle.http_messages.specs.Meaning.{IsDetermined, Misses, message_seen}
use Rattle.sched_server.proofs.service.Service.heard.Goals as goal

pub returns-clause-settled : goal.returns-clause-settled
returns-clause-settled g c = λ none.
    subst (λ key. IsDetermined key c.args.bytes.now (message_seen c.hear.result.message)) (c.as_bytes.ensures.value ∙ c.as_str.ensures)
    (c.hear.ensures.settled none)

pub returns-clause-awaits : goal.returns-clause-awaits
returns-clause-awaits g c =
    subst (λ key. Misses key c.args.bytes.now c.hear.result.missing) (c.as_bytes.ensures.value ∙ c.as_str.ensures) c.hear.ensures.awaits
