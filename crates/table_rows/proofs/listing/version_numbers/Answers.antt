use Rattle.std.proofs.Common.{◌≡◌, true, map, ap, ◌∙◌}
use Rattle.std.proofs.lemmas.Result.{IfOk-weaker}
use Rattle.sqlite_value.specs.Order.{column}
use Rattle.sqlite.specs.Held.{state}
use Rattle.table_meaning.specs.Rows.{whole}
use Rattle.table_meaning.proofs.Named.{versions_shown}
use Rattle.table_rows.proofs.listing.version_numbers.Goals as goal

pub returns-clause-numbers : goal.returns-clause-numbers
returns-clause-numbers g c clean known =
    let it = c.in_ok-rows.ensures.shown clean in
    let old = state g.S.Store (record c.args.conn.now { in_transaction = true }) in
    let listed = versions_shown c.args.app c.args.platform.now old (state g.S.Store it.0) known c.in_ok-rows.rows.items (rw (c.whole.ensures, c.as_bytes.ensures.value) at it.1) in
    IfOk-weaker c.numbers.result (λ all. map whole all ≡ map (λ row. column row 0) c.as_slice.result.now) _ (λ all is. is ∙ ap (map (λ row. column row 0)) c.as_slice.ensures.value ∙ listed) c.numbers.ensures
