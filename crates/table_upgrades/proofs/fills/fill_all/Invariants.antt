use Rattle.std.proofs.Common.{IsTrue}
use Rattle.sqlite.specs.Held.{state}
use Rattle.sqlite.specs.State.{HasCleanDisk}
use Rattle.table_meaning.specs.Fills.{Fills}
use Rattle.table_upgrades.specs.Frames.{WithinTransaction, StaysWithin}
use Rattle.table_upgrades.proofs.fills.fill_all.Given as goal

abbrev pub invariant-rows : goal.invariant-rows
invariant-rows g l =
    let old = state g.S.Store l.fn.tx.conn.now in
    let now = state g.S.Store l.tx.conn.now in
    WithinTransaction g.S.Store l.fn.tx.conn l.tx.conn × StaysWithin g.S.Store l.fn.tx.conn l.tx.conn × (HasCleanDisk now → IsTrue old.in_transaction → Fills l.fill 0 l.from old.now now.now)
