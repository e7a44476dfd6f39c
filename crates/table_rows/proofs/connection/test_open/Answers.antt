use Rattle.std.proofs.Common.{rules, [], IsTrue, ◌≡◌}
use Rattle.std.specs.Prelude.{IfErr}
use Rattle.sqlite.specs.Held.{state}
use Rattle.sqlite.specs.declared.error.Error.{Error}
use Rattle.sqlite.specs.declared.error.Error.TheVariants.{SqliteFailure}
use Rattle.sqlite.specs.declared.error.ErrorCode.TheVariants as code
use Rattle.table_rows.proofs.Unrun.{reads_unchanged, reads_unrun, is_shut}
use Rattle.table_rows.proofs.connection.test_open.Goals as goal

pub returns-clause-reads : goal.returns-clause-reads
returns-clause-reads g c =
    reads_unchanged (state g.S.Store c.args.conn.now) (state g.S.Store c.prepare.new.self) c.prepare.ensures.survives c.prepare.ensures.mode
    (λ clean. (c.in_ok-_statement.ensures.ok clean).1)

pub returns-in_err-_statement-clause-reads : goal.returns-in_err-_statement-clause-reads
returns-in_err-_statement-clause-reads g c =
    reads_unrun (state g.S.Store c.args.conn.now) (state g.S.Store c.prepare.new.self) c.prepare.ensures.survives c.prepare.ensures.mode
    _ [] _ (λ clean. c.in_err-_statement.ensures.err clean [])

pub returns-in_err-_statement-clause-shut : goal.returns-in_err-_statement-clause-shut
returns-in_err-_statement-clause-shut g c = λ clean.
    let P : Error → Type 0 = λ e. e ≡ SqliteFailure code.Closed → ¬ IsTrue (state g.S.Store c.prepare.new.self).is_open in
    let shut : P c.in_err-_statement.field-0.0 = is_shut (state g.S.Store c.args.conn.now) (state g.S.Store c.prepare.new.self) _ [] _ (c.in_err-_statement.ensures.err clean []) in
    let told : IfErr c.from_residual.result P = search rules in
    told
