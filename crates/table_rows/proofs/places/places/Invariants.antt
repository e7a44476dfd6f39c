use Rattle.std.proofs.Common.{◌≡◌, map, take}
use Rattle.table_meaning.specs.Formats.{columns_in}
use Rattle.table_meaning.specs.Places.{place_row}
use Rattle.table_rows.proofs.places.places.Given as goal

abbrev pub invariant-loop-row : goal.invariant-loop-row
invariant-loop-row l = map place_row l.all ≡ map (λ row. columns_in row 2) (take l.row-index l.rows)
