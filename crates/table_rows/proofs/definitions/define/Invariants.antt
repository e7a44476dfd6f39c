use Rattle.std.proofs.Common.{◌≡◌, ◌<◌, IsTrue, length, drop, take}
use Rattle.sqlite_schema.specs.declared.schema.Schema.{Schema}
use Rattle.sqlite_trees.specs.Tree.{Trees}
use Rattle.sqlite.specs.Effect.{IsDatabase}
use Rattle.sqlite.specs.Held.{state}
use Rattle.sqlite.specs.State.{HasCleanDisk, KeepsCommit, Survives}
use Rattle.table_meaning.specs.Schema.{parts_at}
use Rattle.table_meaning.specs.Texts.{definitions}
use Rattle.table_meaning.specs.Schemas.{definitions_between}
use Rattle.table_meaning.specs.Making.{AreStillToMake}
use Rattle.table_rows.proofs.definitions.define.Given as goal

abbrev pub invariant-loop-at : goal.invariant-loop-at
invariant-loop-at g l =
    let old = state g.S.Store l.fn.tx.conn.now in
    let now = state g.S.Store l.tx.conn.now in
    (l.tx.conn.ghost_name ≡ l.initial.tx.conn.ghost_name) × Survives old now (λ _. ⊥) × (HasCleanDisk now → KeepsCommit old now)
    × (HasCleanDisk now → IsTrue old.in_transaction → IsTrue now.in_transaction)
    × (HasCleanDisk now → IsTrue old.in_transaction → (wanted : Schema) (rows : Trees) → AreStillToMake wanted rows (definitions_between l.from l.to) old.now
    → AreStillToMake wanted rows (drop l.at (take (length (parts_at l.to)) definitions)) now.now × (IsDatabase old.now → IsDatabase now.now))
    × (HasCleanDisk now → length (parts_at l.from) < l.at → IsTrue old.is_open × IsTrue now.in_transaction)
