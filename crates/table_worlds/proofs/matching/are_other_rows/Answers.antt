use Rattle.std.proofs.Common.{rules}
use Rattle.table_worlds.specs.RowsOf.{having}
use Rattle.table_worlds.proofs.OtherTables.{all_beside, each_beside}
use Rattle.table_worlds.proofs.matching.are_other_rows.Goals as goal

pub returns-then-settings : goal.returns-then-settings
returns-then-settings c = λ books counted.
    let w = having c.args.world.now books in
    let settings = (rw c.as_slice.ensures at c.in_ok-settings.ensures).0 (search rules) in
    let tables = c.in_ok-tables.ensures books counted in (
      λ yes. all_beside w c.args.rows.now settings (tables.0 yes),
      λ are. tables.1 (λ t has. each_beside w c.args.rows.now are t),
    )
