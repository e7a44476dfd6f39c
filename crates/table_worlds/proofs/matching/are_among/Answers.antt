use Rattle.std.proofs.Common.{rules, ◌≡◌, get_or, sym, subst}
use Rattle.sqlite_rules.specs.Lists.{Has}
use Rattle.table_worlds.proofs.Members.{one_fails}
use Rattle.table_meaning.proofs.RowsHeld.{has_get_or}
use Rattle.table_worlds.proofs.matching.are_among.Goals as goal

pub returns-then-not-is_among : goal.returns-then-not-is_among
returns-then-not-is_among c =
    let rows = c.args.rows.now in
    let i = c.loop-row.row-index in
    let row = c.row-item.result in
    let same : row ≡ get_or rows i row = search rules in
    one_fails (Has c.args.others.now) rows row c.is_among.result (search rules) c.is_among.ensures (subst (Has rows) (sym same) (has_get_or rows i row c.loop-row-test.true))
