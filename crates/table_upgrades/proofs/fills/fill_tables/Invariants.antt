use Rattle.std.proofs.Common.{IsTrue, drop}
use Rattle.sqlite.specs.Effect.{Database}
use Rattle.sqlite.specs.Held.{state}
use Rattle.sqlite.specs.State.{HasCleanDisk}
use Rattle.table_meaning.specs.Fills.{fills_of, FillsEach}
use Rattle.table_upgrades.specs.Frames.{WithinTransaction, StaysWithin}
use Rattle.table_upgrades.proofs.fills.fill_tables.Given as goal

-- the fills that are left complete all fills
abbrev pub invariant-loop-fill : goal.invariant-loop-fill
invariant-loop-fill g l =
    let old = state g.S.Store l.fn.tx.conn.now in
    let now = state g.S.Store l.tx.conn.now in
    WithinTransaction g.S.Store l.fn.tx.conn l.tx.conn × StaysWithin g.S.Store l.fn.tx.conn l.tx.conn
    × (HasCleanDisk now → IsTrue old.in_transaction → (new : Database) → FillsEach (drop l.fill-index (fills_of l.schema)) now.now new → FillsEach (fills_of l.schema) old.now new)
