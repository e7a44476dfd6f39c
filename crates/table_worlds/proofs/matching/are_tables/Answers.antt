use Rattle.std.proofs.Common.{rules, get_or}
use Rattle.table_worlds.specs.RowsOf.{having, IsOtherTable}
use Rattle.table_worlds.specs.declared.keys.NumberedTable.TheVariants.{Account}
use Rattle.table_worlds.proofs.Members.{one_fails}
use Rattle.table_meaning.proofs.RowsHeld.{has_get_or}
use Rattle.table_worlds.proofs.matching.are_tables.Goals as goal

pub returns-then-not-branch : goal.returns-then-not-branch
returns-then-not-branch c = λ books counted.
    let tables = c.args.tables.now in
    let i = c.loop-table.table-index in
    one_fails (IsOtherTable (having c.args.world.now books) c.args.rows.now) tables (get_or tables i Account) c.in_ok-is_table.field-0 (search rules) (c.in_ok-is_table.ensures books counted)
    (has_get_or tables i Account c.loop-table-test.true)
