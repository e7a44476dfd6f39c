-- Words. The workunits with an instance that was given to one of some hosts.
use Rattle.std.specs.Prelude.{◌≡◌, ◌||◌, ℕ, Bool, List}
use Rattle.std.specs.BTreeSet.{BTreeSet, contains}
use Rattle.std.specs.List.{list_any}
use Rattle.std.specs.Ordering.{nat_cmp}
use Rattle.sched_book.specs.Places.{option_any, is_owned_by, unit_at}
use Rattle.sched_book.specs.declared.instance.UnitBook.{UnitBook}
use Rattle.sched_book.specs.declared.world.World.{World}

-- some instance of the workunit was given to one of the hosts
abbrev pub some_had : List ℕ → UnitBook → Bool
some_had hosts b = list_any (λ host. list_any (is_owned_by host) b.instances) hosts

-- the set has what it had before, and the places of the workunits with an instance that was given to one of the hosts
abbrev pub HasAdded : World → List ℕ → BTreeSet ℕ → BTreeSet ℕ → Type 0
HasAdded w hosts old new = (unit : ℕ) → contains nat_cmp new unit ≡ (contains nat_cmp old unit || option_any (some_had hosts) (unit_at w unit))
