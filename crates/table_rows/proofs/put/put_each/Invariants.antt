use Rattle.std.proofs.Common.{◌≡◌, ◌≢◌, [], IsTrue, take}
use Rattle.sqlite.specs.Held.{state}
use Rattle.sqlite.specs.State.{HasCleanDisk, KeepsCommit, Survives}
use Rattle.table_meaning.specs.Steps.{Moves}
use Rattle.table_rows.specs.Utf8.{HaveUtf8}
use Rattle.table_rows.proofs.put.put_each.Given as goal

abbrev pub invariant-loop-change : goal.invariant-loop-change
invariant-loop-change g l =
    let old = state g.S.Store l.fn.tx.conn.now in
    let now = state g.S.Store l.tx.conn.now in
    (l.tx.conn.ghost_name ≡ l.initial.tx.conn.ghost_name) × Survives old now (λ _. ⊥) × (HasCleanDisk now → KeepsCommit old now)
    × (HasCleanDisk now → IsTrue old.in_transaction → Moves old now (take l.change-index l.changes))
    × (HasCleanDisk now → IsTrue old.in_transaction → take l.change-index l.changes ≢ [] → IsTrue old.is_open)
    × HaveUtf8 (take l.change-index l.changes)
