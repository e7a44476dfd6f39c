-- The instance of a number in the list of a workunit is the one at its place.
use Rattle.std.proofs.Common.{◌≡◌, ℕ, [], Option, Some, None, option_map, refl}
use Rattle.std.specs.Prelude.{option_and_then, slice_get, unwrap_or}
use Rattle.sched_book.specs.Desk.{instances_at}
use Rattle.sched_book.specs.Places.{instance_at, unit_at}
use Rattle.sched_book.specs.declared.instance.UnitBook.{UnitBook}
use Rattle.sched_book.specs.declared.world.World.{World}

pub instance_listed : (w : World) (unit number : ℕ) → slice_get (instances_at w unit) number ≡ instance_at w (record { unit = unit; number = number })
instance_listed w unit number = go (unit_at w unit)
  where
    go : (o : Option UnitBook) → slice_get (unwrap_or (option_map (λ (b : UnitBook). b.instances) o) []) number ≡ option_and_then (λ (b : UnitBook). slice_get b.instances number) o
    go None = refl
    go (Some b) = refl
