use Rattle.sqlite.specs.Held.{state}
use Rattle.table_meaning.proofs.Filling.{filled_next}
use Rattle.table_upgrades.proofs.fills.fill_one.Goals as goal

pub returns-clause-fills : goal.returns-clause-fills
returns-clause-fills g c clean inside =
    let old = state g.S.Store c.args.tx.now.conn.now in
    let new = state g.S.Store c.execute.new.self.conn.now in
    filled_next c.args.fill c.args.number old new c.in_ok-execute.field-0 (rw (c.whole.ensures, c.fill_text.ensures) at (c.in_ok-execute.ensures.runs clean inside)).0
