use Rattle.std.proofs.Common.{take, get_or, sym, subst, rules, arith}
use Rattle.std.proofs.lemmas.List.{take_more}
use Rattle.sqlite.specs.Effect.{Database}
use Rattle.sqlite.specs.Held.{state}
use Rattle.sqlite.specs.State.{HasCleanDisk}
use Rattle.table_meaning.specs.declared.tables.TableName.TheVariants.{Setting}
use Rattle.table_meaning.specs.Holding.{AreKnown}
use Rattle.table_meaning.specs.Rows.{rows_in}
use Rattle.table_meaning.proofs.StepLemmas.{reads_on}
use Rattle.table_rows.specs.Visits.{VisitsRows, VisitsTables}
use Rattle.table_reading.proofs.RowsTaken.{Takes, tables_more}
use Rattle.table_reading.proofs.rows.read_tables.Goals as goal

pub loop-table-preserved : goal.loop-table-preserved
loop-table-preserved g c =
    let first = state g.S.Store c.args.conn.now in
    let before = state g.S.Store c.loop-table.conn in
    let after = state g.S.Store c.visit_rows.new.conn in
    let kept = c.loop-table.invariant in
    let read = c.visit_rows.ensures.reads in
    let tables = c.args.tables.now in
    let at = c.loop-table.table-index in
    let table = get_or tables at Setting in (
      reads_on first before after kept.0 read,
      λ was.
          let early : HasCleanDisk before = omega (arith, read.survives.clean, was.clean) in
          let was_open = read.was_open was.clean was.is_open in
          let same = (kept.0.same early was_open was.rests).0 in
          let one = c.in_ok-visit_rows.ensures.rows was.clean (subst AreKnown (sym same) was.known) in
          let visits = subst (λ (d : Database). VisitsRows Takes table c.loop-table.reading (rows_in d.trees table) c.visit_rows.new.visitor) same one in
          let more = tables_more first.now.trees (take at tables) table c.args.reading.now c.loop-table.reading c.visit_rows.new.visitor
          (kept.1 (record { clean = early; is_open = was_open; rests = was.rests; known = was.known })) visits in
          subst (λ ts. VisitsTables Takes first.now.trees c.args.reading.now ts c.visit_rows.new.visitor) (sym (take_more tables at Setting (search rules))) more,
    )
