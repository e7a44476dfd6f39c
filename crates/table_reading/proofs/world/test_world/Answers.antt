use Rattle.std.proofs.Common.{◌≡◌, false, rules}
use Rattle.std.proofs.lemmas.Bool.{both_ways}
use Rattle.std.proofs.lemmas.Result.{IfErr-weaker, IfOk-weaker}
use Rattle.sqlite.specs.Held.{state}
use Rattle.table_reading.proofs.WorldRepresented.{stand_read, fit_read, tested_read, beside_read}
use Rattle.table_reading.proofs.world.test_world.Goals as goal

pub returns-clause-stands : goal.returns-clause-stands
returns-clause-stands g c = λ was all read typed is.
    let db = (state g.S.Store c.args.conn.now).now in
    IfOk-weaker c.test_rows.result _ _
    (λ due_from tested. (tested.0, stand_read db was.known all read typed c.args.reading.now is c.args.world.now tested.0 (search rules) tested.1 tested.2, tested.3)) (c.test_rows.ensures.stand was)

pub returns-clause-bad : goal.returns-clause-bad
returns-clause-bad g c = λ was all read typed is none.
    let db = (state g.S.Store c.args.conn.now).now in
    IfErr-weaker c.test_rows.result _ _
    (λ e bad refused books stand. bad refused books (tested_read db was.known all read typed c.args.reading.now is c.args.world.now books stand) (beside_read db was.known all read typed c.args.reading.now is c.args.world.now books stand)) (c.test_rows.ensures.bad was)

pub returns-then-not-branch-clause-bad : goal.returns-then-not-branch-clause-bad
returns-then-not-branch-clause-bad g c = λ was all read typed is none refused books stand.
    let db = (state g.S.Store c.args.conn.now).now in
    let unfit : c.in_ok-is_fit.field-0 ≡ false = search rules in
    both_ways _ unfit (c.in_ok-is_fit.ensures.1 (fit_read db was.known all read typed c.args.reading.now is c.args.world.now books stand none))
