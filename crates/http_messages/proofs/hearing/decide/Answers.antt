-- The spans are those of a head, whose target is text.
use Rattle.std.proofs.Common.{◌∙◌, sym, ap, subst, map, take}
use Rattle.std.specs.Str.{IsUtf8}
use Rattle.httparse.specs.Spans.{header_bytes}
use Rattle.http_messages.specs.Hearing.{decision_seen}
use Rattle.http_messages.specs.Routing.{path_of, route_seen}
use Rattle.std.specs.Prelude.{option_map}
use Rattle.http_messages.proofs.MeaningLemmas.{decided_at, text_is, text_is_some}
use Rattle.http_messages.proofs.hearing.decide.Goals as goal

pub returns-in-Some : goal.returns-in-Some
returns-in-Some c = λ h at.
    let target = c.of.ensures ∙ at.path in
    let is_text = subst IsUtf8 (sym target) at.reads.0.target_text in
    let text = text_is c.of.result.now c.in-Some.target.now c.in-Some.ensures is_text ∙ target in
    decided_at c.args.key.now c.of-method.result.now (map (header_bytes c.args.front.now) (take c.args.spans.headers c.args.fields.now)) c.path_of.result.now
    (option_map route_seen c.route_of.result) (decision_seen c.decide_for.result) h
    c.decide_for.ensures (c.of-method.ensures ∙ at.method) at.fields c.route_of.ensures (c.path_of.ensures ∙ ap path_of text)

pub returns-in-None : goal.returns-in-None
returns-in-None c = λ h at.
    let target = c.of.ensures ∙ at.path in
    absurd (text_is_some c.of.result.now c.in-None.ensures (subst IsUtf8 (sym target) at.reads.0.target_text))
