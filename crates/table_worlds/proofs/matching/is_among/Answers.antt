use Rattle.std.proofs.Common.{rules, ◌≡◌, get_or, sym, subst}
use Rattle.sqlite_rules.specs.Lists.{Has}
use Rattle.table_worlds.proofs.Members.{found_here}
use Rattle.table_meaning.proofs.RowsHeld.{has_get_or}
use Rattle.table_worlds.proofs.matching.is_among.Goals as goal

pub returns-then-same_row : goal.returns-then-same_row
returns-then-same_row c =
    let rows = c.args.rows.now in
    let i = c.loop-other.other-index in
    let other = c.other-item.result in
    let same : other ≡ get_or rows i other = search rules in
    found_here rows c.args.row.now other (search rules) (subst (Has rows) (sym same) (has_get_or rows i other c.loop-other-test.true))
