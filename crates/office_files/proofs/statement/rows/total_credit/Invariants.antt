use Rattle.std.proofs.Common.{◌≡◌, ◌<◌, ◌^◌, ◌+◌, drop}
use Rattle.office_files.specs.Statements.{total_credit}
use Rattle.office_files.proofs.statement.rows.total_credit.Given as goal

-- the credit so far, and that of the other lines, is all
abbrev pub invariant-loop-line : goal.invariant-loop-line
invariant-loop-line l = record {
  all : total_credit l.lines ≡ l.credit + total_credit (drop l.line-index l.lines);
  fits : l.credit < 2 ^ 64;
}
