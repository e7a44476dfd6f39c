-- After the last line no credit is left.
use Rattle.std.proofs.Common.{◌≡◌, ap, arith, drop}
use Rattle.std.proofs.lemmas.List.{drop_all}
use Rattle.office_files.specs.Statements.{total_credit}
use Rattle.office_files.proofs.statement.rows.total_credit.Goals as goal

pub returns : goal.returns
returns c =
    let none : total_credit (drop c.loop-line.line-index c.args.lines.now) ≡ 0 = ap total_credit (drop_all c.loop-line.line-index c.args.lines.now (omega arith)) in
    (omega (arith, c.loop-line.invariant.all, c.loop-line.invariant.fits, none), omega (arith, c.loop-line.invariant.all, none))
