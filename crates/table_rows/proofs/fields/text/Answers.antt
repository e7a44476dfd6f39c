use Rattle.std.proofs.Common.{◌≡◌, IsUtf8, subst, rules}
use Rattle.std.proofs.lemmas.Option.{none-some}
use Rattle.std.proofs.lemmas.Str.{is_utf8-from_IsUtf8}
use Rattle.table_rows.proofs.fields.text.Goals as goal

pub returns-in-None-clause-bad : goal.returns-in-None-clause-bad
returns-in-None-clause-bad c = λ _ found.
    let same : found.0 ≡ c.in-Text.bytes.now = search rules in
    let utf8 = is_utf8-from_IsUtf8 c.in-Text.bytes.now (subst IsUtf8 same found.2) in
    none-some c.in-Text.bytes.now (rw (c.in-None.is, utf8) at c.utf8_text.ensures)
