use Rattle.std.proofs.Common.{◌≢◌, drop}
use Rattle.table_meaning.specs.declared.rows.StoredRow.{StoredRow}
use Rattle.table_worlds.proofs.Members.{LeftOr}
use Rattle.table_decoding.specs.Decoding.{schema_row}
use Rattle.table_decoding.proofs.settings.names_schema.Given as goal

abbrev pub invariant-loop-row : goal.invariant-loop-row
invariant-loop-row l = LeftOr (λ (r : StoredRow). r ≢ schema_row) l.rows (drop l.row-index l.rows)
