-- What was found so far, with what the other fields say, is what all say.
use Rattle.std.proofs.Common.{◌≡◌, drop, map}
use Rattle.httparse.specs.Spans.{header_bytes}
use Rattle.http_messages.specs.Fields.{found_told, field_named, values_of}
use Rattle.http_messages.proofs.FieldLemmas.{told_after}
use Rattle.http_messages.proofs.fields.find.Given as goal

abbrev pub invariant-loop-span : goal.invariant-loop-span
invariant-loop-span l =
    told_after (found_told l.found) (values_of l.name (map (header_bytes l.front) (drop l.span-index l.spans)))
    ≡ field_named l.name (map (header_bytes l.front) l.spans)
