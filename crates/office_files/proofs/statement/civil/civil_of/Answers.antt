-- UTC has no offset from the instant.
use Rattle.std.proofs.Common.{arith, ◌≡◌, ◌∙◌, ap, pos, ◌+ℤ◌, refl, w64, to_z}
use Rattle.std.proofs.lemmas.Int.{to_z_pos}
use Rattle.jiff.specs.Words.{civil_nanos, nanos_of_seconds, plain_zoned}
use Rattle.jiff.proofs.SpanFacts.{signed_arith}
use Rattle.jiff.proofs.ZoneFacts.{shows-UTC}
use Rattle.office_files.proofs.statement.civil.civil_of.Goals as goal

pub returns-in-Ok-clause-told : goal.returns-in-Ok-clause-told
returns-in-Ok-clause-told c =
    let shown = shows-UTC (plain_zoned c.to_zoned.result) (c.to_zoned.ensures.zone ∙ refl) in
    let second : to_z w64 c.args.moment ≡ pos c.args.moment = to_z_pos w64 c.args.moment (omega arith) in
    let instant = rw second at c.in-Ok.ensures.value in
    ap civil_nanos c.datetime.ensures
    ∙ shown
    ∙ ap (λ t. t.nanosecond +ℤ nanos_of_seconds (pos 0)) c.to_zoned.ensures.instant
    ∙ omega (arith, signed_arith, instant)
