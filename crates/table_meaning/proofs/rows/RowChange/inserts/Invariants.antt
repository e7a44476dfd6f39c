use Rattle.std.proofs.Common.{◌≡◌}
use Rattle.table_meaning.proofs.rows.RowChange.inserts.Given as goal

abbrev pub invariant-loop-row : goal.invariant-loop-row
invariant-loop-row l = l.changes ≡ l.yielded
