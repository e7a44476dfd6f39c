use Rattle.std.proofs.Common.{◌≡◌, true, map, ap, ◌∙◌}
use Rattle.std.proofs.lemmas.Result.{IfOk-weaker}
use Rattle.sqlite_value.specs.Order.{column}
use Rattle.sqlite.specs.Held.{state}
use Rattle.table_meaning.specs.Rows.{whole}
use Rattle.table_meaning.proofs.Named.{hosts_shown}
use Rattle.table_rows.proofs.listing.hosts_of_user.Goals as goal

pub returns-clause-hosts : goal.returns-clause-hosts
returns-clause-hosts g c clean known =
    let it = c.in_ok-rows.ensures.shown clean in
    let old = state g.S.Store (record c.args.conn.now { in_transaction = true }) in
    let listed = hosts_shown c.args.account old (state g.S.Store it.0) known c.in_ok-rows.rows.items (rw c.whole.ensures at it.1) in
    IfOk-weaker c.numbers.result (λ all. map whole all ≡ map (λ row. column row 0) c.as_slice.result.now) _ (λ all is. is ∙ ap (map (λ row. column row 0)) c.as_slice.ensures.value ∙ listed) c.numbers.ensures
