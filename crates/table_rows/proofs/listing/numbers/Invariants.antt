use Rattle.std.proofs.Common.{◌≡◌, map, take}
use Rattle.sqlite_value.specs.Order.{column}
use Rattle.table_meaning.specs.Rows.{whole}
use Rattle.table_rows.proofs.listing.numbers.Given as goal

abbrev pub invariant-loop-row : goal.invariant-loop-row
invariant-loop-row l = map whole l.all ≡ map (λ row. column row 0) (take l.row-index l.rows)
