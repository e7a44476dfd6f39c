use Rattle.std.proofs.Common.{◌≡◌, true, map, ◌∙◌}
use Rattle.std.proofs.lemmas.Result.{IfOk-weaker}
use Rattle.sqlite.specs.Held.{state}
use Rattle.table_meaning.specs.declared.rows.StoredRow.TheVariants.{Instance}
use Rattle.table_meaning.specs.Rows.{columns_of}
use Rattle.table_meaning.proofs.PlacesWithin.{within_shown}
use Rattle.table_rows.proofs.places.instances_in.Goals as goal

pub returns-clause-rows : goal.returns-clause-rows
returns-clause-rows g c clean contents places held are =
    let it = c.in_ok-rows.ensures.shown clean in
    let old = state g.S.Store (record c.args.conn.now { in_transaction = true }) in
    IfOk-weaker c.instances.result (λ all. map (λ instance. columns_of (Instance instance)) all ≡ c.as_slice.result.now) _
    (λ all read. within_shown old (state g.S.Store it.0) contents held places are c.args.unit c.in_ok-rows.rows.items (rw c.whole.ensures at it.1) all (read ∙ c.as_slice.ensures.value)) c.instances.ensures
