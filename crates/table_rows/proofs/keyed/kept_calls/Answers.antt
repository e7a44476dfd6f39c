use Rattle.std.proofs.Common.{◌≡◌, true, map, ap, ◌∙◌}
use Rattle.std.proofs.lemmas.Result.{IfOk-weaker}
use Rattle.sqlite.specs.Held.{state}
use Rattle.table_meaning.specs.declared.rows.StoredRow.TheVariants.{Kept}
use Rattle.table_meaning.specs.Formats.{columns_in}
use Rattle.table_meaning.specs.Rows.{columns_of}
use Rattle.table_meaning.proofs.KeptCalls.{calls_shown}
use Rattle.table_rows.proofs.keyed.kept_calls.Goals as goal

pub returns-clause-rows : goal.returns-clause-rows
returns-clause-rows g c clean known =
    let it = c.in_ok-rows.ensures.shown clean in
    let old = state g.S.Store (record c.args.conn.now { in_transaction = true }) in
    let shown = calls_shown c.args.host old (state g.S.Store it.0) known c.in_ok-rows.rows.items (rw c.whole.ensures at it.1) in
    IfOk-weaker c.calls.result (λ all. map (λ k. columns_of (Kept k)) all ≡ map (λ row. columns_in row 5) c.as_slice.result.now) _ (λ all read. read ∙ ap (map (λ row. columns_in row 5)) c.as_slice.ensures.value ∙ shown) c.calls.ensures
