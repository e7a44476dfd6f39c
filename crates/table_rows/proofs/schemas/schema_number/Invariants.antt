use Rattle.std.proofs.Common.{◌≢◌, ℕ, ◌+◌, ◌≤◌, ◌<◌}
use Rattle.sqlite.specs.Held.{state}
use Rattle.table_meaning.specs.Schema.{newest, schema_at}
use Rattle.table_rows.proofs.schemas.schema_number.Given as goal

abbrev pub invariant-loop-newer : goal.invariant-loop-newer
invariant-loop-newer g l = (n : ℕ) → n ≤ newest → newest < n + l.newer → (state g.S.Store l.conn).now.schema ≢ schema_at n
