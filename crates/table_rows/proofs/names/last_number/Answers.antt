use Rattle.std.proofs.Common.{true, [], ◌∷◌, codes, unwrap_or, ap, ◌∙◌}
use Rattle.sqlite.specs.Held.{state}
use Rattle.table_meaning.specs.Rows.{whole}
use Rattle.table_meaning.proofs.LastRow.{last_shown}
use Rattle.table_rows.specs.Counted.{counted_table, last_text}
use Rattle.table_rows.proofs.LastNumbers.{last_is_read, number_first, or_none}
use Rattle.table_rows.proofs.names.last_number.Goals as goal

pub returns-clause-last : goal.returns-clause-last
returns-clause-last g c clean known =
    let t = c.args.table in
    let found = c.in_ok-last.ensures.first clean in
    let old = state g.S.Store (record c.args.conn.now { in_transaction = true }) in
    let last = last_shown (counted_table t) (number_first t) (codes "id" ∷ []) (last_text t) (last_is_read t) old (state g.S.Store found.1.0) known found.0 (rw c.last_text.ensures at found.1.1) in
    ap whole c.unwrap_or.ensures ∙ or_none c.in_ok-last.last ∙ ap (λ o. unwrap_or o (whole 0)) (found.2 ∙ last)
