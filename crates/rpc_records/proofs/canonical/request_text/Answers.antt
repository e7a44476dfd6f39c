-- A request has no float, and its text is UTF-8, so it is read back.
use Rattle.std.proofs.Common.{◌≡◌, List, ℕ, Ok, ap, ◌∙◌, sym, subst}
use Rattle.std.proofs.lemmas.Str.{IsUtf8-string_bytes}
use Rattle.std.specs.Prelude.{IsUtf8}
use Rattle.serde_json.specs.Written.{has_float, compact_text}
use Rattle.rpc_records.proofs.Floats.{no_float-request_json}
use Rattle.rpc_records.proofs.Unique.{meaning-canonical_text}
use Rattle.rpc_records.specs.Ranges.{IsInRange}
use Rattle.rpc_records.specs.Reading.{meaning}
use Rattle.rpc_records.specs.Spelling.{canonical_text}
use Rattle.rpc_records.specs.declared.request.Request.{Request}
use Rattle.rpc_records.proofs.canonical.request_text.Goals as goal

pub returns-clause-text : goal.returns-clause-text
unfolding canonical_text
returns-clause-text c =
    let is = c.in_ok-value.ensures in
    c.of.ensures ∙ c.in_ok-to_string.ensures.text (ap has_float is ∙ no_float-request_json c.args.request.now) ∙ ap compact_text is

-- a text whose bytes are UTF-8 and canonical
read_again : (text : List ℕ) (r : Request) → text ≡ canonical_text r → IsUtf8 text → IsInRange r → meaning text ≡ Ok r
read_again text r is utf8 range = ap meaning is ∙ meaning-canonical_text r range (subst IsUtf8 is utf8)

pub returns-clause-read_again : goal.returns-clause-read_again
returns-clause-read_again c =
    read_again c.of.result c.args.request.now (returns-clause-text c) (subst IsUtf8 (sym c.of.ensures) (IsUtf8-string_bytes c.in_ok-to_string.field-0))
