-- Words. Changes that fit, in a world whose instances are within limits.
use Rattle.std.specs.Prelude.{◌≡◌, ℕ, ◌≤◌, List, length, Some}
use Rattle.sched_book.specs.Places.{unit_at, instance_at}
use Rattle.sched_book.specs.Limits.{most_instances, IsInstanceInLimits}
use Rattle.sched_book.specs.Sound.{IsBare, HasOwnerAmong}
use Rattle.sched_book.specs.Delta.{edited, EditsFit}
use Rattle.sched_book.specs.declared.delta.Edit.{Edit}
use Rattle.sched_book.specs.declared.instance.Instance.{Instance}
use Rattle.sched_book.specs.declared.instance.Place.{Place}
use Rattle.sched_book.specs.declared.instance.UnitBook.{UnitBook}
use Rattle.sched_book.specs.declared.world.World.{World}

-- no workunit has more instances than it may; the host of each instance exists, an instance without owner is bare, and
-- the values are in range
pub record IsLimited (w : World) : Type 0 where
  pub few : (unit : ℕ) (b : UnitBook) → unit_at w unit ≡ Some b → length b.instances ≤ most_instances
  pub each : (p : Place) (x : Instance) → instance_at w p ≡ Some x → HasOwnerAmong w.hosts x × IsBare x × IsInstanceInLimits x

-- the changes fit, and leave such a world
pub record FitWithin (w : World) (changes : List Edit) : Type 0 where
  pub fits : EditsFit w changes
  pub limited : IsLimited (edited w changes)
