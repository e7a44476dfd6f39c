use Rattle.std.proofs.Common.{◌≡◌, None, drop}
use Rattle.table_meaning.specs.declared.rows.StoredRow.{StoredRow}
use Rattle.table_worlds.proofs.Members.{LeftOr}
use Rattle.table_decoding.specs.Decoding.{told_of}
use Rattle.table_decoding.proofs.settings.value_of.Given as goal

abbrev pub invariant-loop-row : goal.invariant-loop-row
invariant-loop-row l = LeftOr (λ (r : StoredRow). told_of l.name r ≡ None) l.rows (drop l.row-index l.rows)
