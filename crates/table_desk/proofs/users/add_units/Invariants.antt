use Rattle.std.proofs.Common.{◌≡◌, ℕ, take}
use Rattle.std.specs.Prelude.{◌||◌}
use Rattle.std.specs.BTreeSet.{contains}
use Rattle.std.specs.Ordering.{nat_cmp}
use Rattle.sched_book.specs.Grant.{has_unit}
use Rattle.table_desk.proofs.users.add_units.Given as goal

abbrev pub invariant-loop-place : goal.invariant-loop-place
invariant-loop-place l = (unit : ℕ) → contains nat_cmp l.units unit ≡ (contains nat_cmp l.initial.units unit || has_unit unit (take l.place-index l.places))
