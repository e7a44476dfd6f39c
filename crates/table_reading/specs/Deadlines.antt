-- Rule. A moment that is lowered to the least deadline of the instances that are held.
use Rattle.std.specs.Prelude.{ℕ, min, if◌then◌else◌, List, fold}
use Rattle.sched_book.specs.Count.{is_held}
use Rattle.sched_book.specs.Places.{deadline_of}
use Rattle.sched_book.specs.declared.instance.Instance.{Instance}
use Rattle.sched_book.specs.declared.instance.UnitBook.{UnitBook}

-- lowered to the deadline of an instance, if that is held
abbrev pub lowered_to : ℕ → Instance → ℕ
lowered_to due_from x = if is_held x then min due_from (deadline_of x.owner) else due_from

-- to those of several instances
abbrev pub lowered_to_each : ℕ → List Instance → ℕ
lowered_to_each = fold lowered_to

-- and to those of the instances of workunits
abbrev pub lowered_to_units : ℕ → List UnitBook → ℕ
lowered_to_units = fold (λ due_from (b : UnitBook). lowered_to_each due_from b.instances)
