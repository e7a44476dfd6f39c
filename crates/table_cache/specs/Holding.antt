-- Words. The places that hosts hold, by the rows of instances.
use Rattle.std.specs.Prelude.{◌≡◌, ◌==◌, ℕ, if◌then◌else◌, List, None, Option, option_and_then}
use Rattle.std.specs.Ordering.{nat_cmp}
use Rattle.sched_book.specs.Count.{is_held}
use Rattle.sched_book.specs.Places.{host_of, option_any}
use Rattle.sched_book.specs.declared.instance.Instance.{Instance}
use Rattle.sched_book.specs.declared.instance.Place.{Place}
use Rattle.table_desk.specs.Sorted.{has, AreSorted}
use Rattle.table_cache.specs.RowsRead.{HoldOfEach}
use Rattle.table_cache.specs.declared.rows_read.RowsRead.{RowsRead}

-- the number of the host that holds a job, if one does
abbrev pub holder_of : Instance → Option ℕ
holder_of x = if is_held x then host_of x else None

-- who holds each of these jobs, by workunit and number
abbrev pub holders_of : (ℕ → ℕ → Option Instance) → ℕ → ℕ → Option ℕ
holders_of jobs unit number = option_and_then holder_of (jobs unit number)

-- the holders with this one, or none, at a place
abbrev pub with_holder : (ℕ → ℕ → Option ℕ) → ℕ → ℕ → Option ℕ → ℕ → ℕ → Option ℕ
with_holder holders unit number holder other at = if unit == other then if number == at then holder else holders other at else holders other at

-- These are the places that a host holds, in order.
pub record IsHeldOf (holders : ℕ → ℕ → Option ℕ) (host : ℕ) (places : List Place) : Type 0 where
  pub sorted : AreSorted places
  pub each : (p : Place) → has places p ≡ option_any (λ n. n == host) (holders p.unit p.number)

-- What is known of the places of hosts is what they hold.
abbrev pub AreHeldOf : (ℕ → ℕ → Option ℕ) → RowsRead ℕ (List Place) → Type 0
AreHeldOf holders held = HoldOfEach nat_cmp (IsHeldOf holders) held
