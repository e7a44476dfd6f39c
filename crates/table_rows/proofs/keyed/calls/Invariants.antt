use Rattle.std.proofs.Common.{◌≡◌, map, take}
use Rattle.table_meaning.specs.declared.rows.StoredRow.TheVariants.{Kept}
use Rattle.table_meaning.specs.Formats.{columns_in}
use Rattle.table_meaning.specs.Rows.{columns_of}
use Rattle.table_rows.proofs.keyed.calls.Given as goal

abbrev pub invariant-loop-row : goal.invariant-loop-row
invariant-loop-row l = map (λ k. columns_of (Kept k)) l.all ≡ map (λ row. columns_in row 5) (take l.row-index l.rows)
