-- Words. What credit keeps from a world to a later one.
use Rattle.std.specs.Prelude.{◌≡◌, ℕ, true, Some, slice_get}
use Rattle.sched_book.specs.Classes.{imported}
use Rattle.sched_book.specs.Count.{is_valid}
use Rattle.sched_book.specs.Places.{unit_at, host_of, book_verdict}
use Rattle.sched_book.specs.declared.instance.Instance.{Instance}
use Rattle.sched_book.specs.declared.instance.UnitBook.{UnitBook}
use Rattle.sched_book.specs.declared.world.World.{World}

-- A workunit with its instances continues as another. Its row is the same, except for its class. Each instance with a valid
-- result still has one, and the same host.
pub record UnitContinues (old new : World) (b c : UnitBook) : Type 0 where
  pub row : imported c.unit ≡ imported b.unit
  pub valid : (number : ℕ) (x : Instance) → slice_get b.instances number ≡ Some x → is_valid (book_verdict old.apps b x) ≡ true
      → (y : Instance) × (slice_get c.instances number ≡ Some y) × (is_valid (book_verdict new.apps c y) ≡ true) × (host_of y ≡ host_of x)

-- Each workunit of the one world exists in the other, and continues there.
pub record CreditContinues (old new : World) : Type 0 where
  pub each : (unit : ℕ) (b : UnitBook) → unit_at old unit ≡ Some b → (c : UnitBook) × (unit_at new unit ≡ Some c) × UnitContinues old new b c
