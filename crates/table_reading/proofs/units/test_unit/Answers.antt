use Rattle.std.proofs.Common.{subst}
use Rattle.std.proofs.lemmas.Result.{IfErr-weaker, on_ok_weaker}
use Rattle.sqlite.specs.Held.{state}
use Rattle.table_worlds.specs.RowsOf.{rows_of_unit}
use Rattle.table_reading.specs.Testing.{AreFound}
use Rattle.table_reading.proofs.ReadsOn.{refused_on}
use Rattle.table_reading.proofs.UnitsTested.{one_found, has_no_gap}
use Rattle.table_reading.proofs.units.test_unit.Goals as goal

pub returns-in_err-rows-clause-bad : goal.returns-in_err-rows-clause-bad
returns-in_err-rows-clause-bad g c = λ was.
    let trees = (state g.S.Store c.args.conn.now).now.trees in
    refused_on c.from_residual.result _ c.in_err-rows.field-0.0 c.from_residual.ensures.1
    (λ is b stands. absurd (has_no_gap trees c.args.id c.args.count c.args.world.now b stands (c.in_err-rows.ensures.bad was is)))

pub returns-clause-stands : goal.returns-clause-stands
returns-clause-stands g c = λ was.
    let trees = (state g.S.Store c.args.conn.now).now.trees in
    on_ok_weaker c.test_rows.result
    (λ passes. (passes.0, record { sound = passes.1; found = subst (AreFound trees c.args.id c.args.count) passes.2 (c.in_ok-rows.ensures.found was) }, passes.3, passes.4, passes.5, passes.6)) c.test_rows.ensures.passes

pub returns-clause-bad : goal.returns-clause-bad
returns-clause-bad g c = λ was.
    let trees = (state g.S.Store c.args.conn.now).now.trees in
    let w = c.args.world.now in
    let id = c.args.id in
    IfErr-weaker c.test_rows.result _ _
    (λ e bad is b stands. bad is b stands.sound (one_found trees id c.args.count c.in_ok-rows.rows (rows_of_unit w id b) (c.in_ok-rows.ensures.found was) stands.found)) c.test_rows.ensures.bad
