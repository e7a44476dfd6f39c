-- Words. The changes that give workunits the instances that they need.
use Rattle.std.specs.Prelude.{ℕ, zero, suc, ◌+◌, List, [], ◌∷◌, ◌++◌, length, option_map, unwrap_or}
use Rattle.sched_book.specs.Places.{unit_at, agreement_of}
use Rattle.sched_book.specs.Settle.{fresh}
use Rattle.sched_book.specs.declared.delta.Edit.{Edit}
use Rattle.sched_book.specs.declared.delta.Edit.TheVariants as edit
use Rattle.sched_book.specs.declared.instance.UnitBook.{UnitBook}
use Rattle.sched_book.specs.declared.world.World.{World}
use Rattle.quorum_credit.specs.Settled.{new_instances}

-- `count` instances of a workunit that were given to nobody; the first has the number `number`
abbrev pub fresh_changes : ℕ → ℕ → ℕ → List Edit
fresh_changes unit number zero = []
fresh_changes unit number (suc count) =
    edit.Instance (record { unit = unit; number = number }) fresh ∷ fresh_changes unit (number + 1) count

-- the instances that a workunit is to get
abbrev pub growth_of : World → ℕ → UnitBook → List Edit
growth_of w unit b = fresh_changes unit (length b.instances) (new_instances (agreement_of w b) b.unit b.instances)

-- the same of the workunit at a place; none if there is no workunit
abbrev pub growth : World → ℕ → List Edit
growth w unit = unwrap_or (option_map (growth_of w unit) (unit_at w unit)) []

-- the same of the workunits at these places
abbrev pub all_growth : World → List ℕ → List Edit
all_growth w [] = []
all_growth w (unit ∷ units) = growth w unit ++ all_growth w units
