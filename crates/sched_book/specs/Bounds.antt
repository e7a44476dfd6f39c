-- Rule. What a bounded world has at most: 200,000 workunits of 100 instances each. A sound world is bounded.
use Rattle.std.specs.Prelude.{ℕ, ◌≤◌, length}
use Rattle.sched_book.specs.Limits.{IsBounded}
use Rattle.sched_book.specs.Places.{places, held_by, overdue}
use Rattle.sched_book.specs.Settle.{charges, merits}
use Rattle.sched_book.specs.Sound.{Sound}
use Rattle.sched_book.specs.declared.world.World.{World}

abbrev pub SoundIsBounded : Type 0
SoundIsBounded = (w : World) → Sound w → IsBounded w

-- How many instances there are at most: all, those that a host holds, and those that are overdue.
pub record HasFewInstances (w : World) : Type 0 where
  pub all : length (places w) ≤ 20000000
  pub held : (host : ℕ) → length (held_by w host) ≤ 20000000
  pub overdue : (now : ℕ) → length (overdue w now) ≤ 20000000

abbrev pub InstancesAreFew : Type 0
InstancesAreFew = (w : World) → IsBounded w → HasFewInstances w

-- What counts against a host in one step, and what counts for it.
pub record CountsFew (old new : World) (host : ℕ) : Type 0 where
  pub charges : charges old new host ≤ 60000000
  pub merits : merits old new host ≤ 20000000

abbrev pub ChargesAreFew : Type 0
ChargesAreFew = (old new : World) (host : ℕ) → IsBounded new → CountsFew old new host
