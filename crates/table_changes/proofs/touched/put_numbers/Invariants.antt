use Rattle.std.proofs.Common.{◌≡◌, ℕ, take}
use Rattle.std.specs.Prelude.{◌||◌}
use Rattle.std.specs.BTreeSet.{contains}
use Rattle.std.specs.Ordering.{nat_cmp}
use Rattle.call_working_set.specs.WorkingSets.{is_among}
use Rattle.table_changes.proofs.touched.put_numbers.Given as goal

-- the numbers so far are put
abbrev pub invariant-loop-number : goal.invariant-loop-number
invariant-loop-number l = (n : ℕ) → contains nat_cmp l.set n ≡ (is_among (take l.number-index l.numbers) n || contains nat_cmp l.initial.set n)
