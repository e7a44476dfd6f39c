use Rattle.std.proofs.Common.{refl, arith}
use Rattle.std.proofs.lemmas.List.{drop_all}
use Rattle.std.proofs.lemmas.Option.{slice_get_read}
use Rattle.table_worlds.proofs.Members.{all_seen}
use Rattle.table_decoding.proofs.SettingsDecoded.{found_told, not_none}
use Rattle.sqlite.proofs.RunLemmas.{has_got}
use Rattle.table_decoding.proofs.settings.value_of.Goals as goal

pub returns-in-Some : goal.returns-in-Some
returns-in-Some c = λ v these.
    let rows = c.args.rows.now in
    let i = c.loop-row.row-index in
    let row = c.row-item.result in
    found_told rows c.args.name.now v these row c.in-Some.value.now (has_got rows i row (slice_get_read rows _ i row refl c.loop-row-test.true c.row-item.is)) c.in-Some.ensures

pub returns : goal.returns
returns c = λ v these.
    let rows = c.args.rows.now in
    absurd (not_none rows c.args.name.now v these (all_seen _ rows _ (drop_all c.loop-row.row-index rows (omega arith)) c.loop-row.invariant))
