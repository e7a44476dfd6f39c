use Rattle.std.proofs.Common.{◌≡◌, map, take}
use Rattle.table_meaning.specs.declared.rows.StoredRow.TheVariants.{Instance}
use Rattle.table_meaning.specs.Rows.{columns_of}
use Rattle.table_rows.proofs.places.instances.Given as goal

abbrev pub invariant-loop-row : goal.invariant-loop-row
invariant-loop-row l = map (λ instance. columns_of (Instance instance)) l.all ≡ take l.row-index l.rows
