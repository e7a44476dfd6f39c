use Rattle.std.proofs.Common.{◌≡◌, refl, subst}
use Rattle.std.proofs.lemmas.Option.{slice_get_read}
use Rattle.sqlite_rules.specs.Lists.{Has}
use Rattle.table_decoding.specs.Decoding.{schema_row}
use Rattle.sqlite.proofs.RunLemmas.{has_got}
use Rattle.table_decoding.proofs.settings.names_schema.Goals as goal

pub returns-then-is_schema : goal.returns-then-is_schema
returns-then-is_schema c =
    let rows = c.args.rows.now in
    let i = c.loop-row.row-index in
    let row = c.row-item.result in
    let same : row ≡ schema_row = c.if-is_schema.ensures.0 refl in
    (λ yes. subst (Has rows) same (has_got rows i row (slice_get_read rows _ i row refl c.loop-row-test.true c.row-item.is)), λ has. refl)
