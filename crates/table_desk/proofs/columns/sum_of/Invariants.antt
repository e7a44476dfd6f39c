use Rattle.std.proofs.Common.{◌≡◌, take, sum_by, unsigned_abs}
use Rattle.table_desk.proofs.columns.sum_of.Given as goal

abbrev pub invariant-loop-credit : goal.invariant-loop-credit
invariant-loop-credit l = l.sum ≡ sum_by unsigned_abs (take l.credit-index l.credits)
