use Rattle.std.proofs.Common.{lit<, arith}
use Rattle.std.proofs.Math.Nat.{pow-le-pow_right}
use Rattle.sched_book.proofs.whole_numbers.number_of_digits.Goals as goal

-- at most 17 digits came before
pub overflow_mul-number : goal.overflow_mul-number
overflow_mul-number c = omega (arith, pow-le-pow_right {n = 10} (lit< tt) {i = c.loop-byte.byte-index} {j = 17} (omega arith))

pub overflow_add-number : goal.overflow_add-number
overflow_add-number c = omega (arith, pow-le-pow_right {n = 10} (lit< tt) {i = c.loop-byte.byte-index} {j = 17} (omega arith))

pub returns-clause-small : goal.returns-clause-small
returns-clause-small c = omega (arith, pow-le-pow_right {n = 10} (lit< tt) {i = c.loop-byte.byte-index} {j = 18} (omega arith))
