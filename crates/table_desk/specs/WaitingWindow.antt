-- Rule. What waits to be given out, and a window of its places.
use Rattle.std.specs.Prelude.{◌≡◌, ◌==◌, ℕ, Bool, true, false, not, ◌&&◌, if◌then◌else◌, is_none, List, Option, Some, None, IfSome, option_and_then, option_map, slice_get, unwrap_or}
use Rattle.sched_book.specs.Count.{is_open}
use Rattle.sched_book.specs.Places.{is_before, status_of, unit_at}
use Rattle.sched_book.specs.declared.instance.Place.{Place}
use Rattle.sched_book.specs.declared.world.World.{World}
use Rattle.table_desk.specs.Sorted.{has, AreSorted}
use Rattle.table_desk.specs.declared.window.QueueWindow.{QueueWindow}

-- ---- what waits, by workunit and number: nothing is said where there is no instance

-- with this at a place
abbrev pub with_wait_at : (ℕ → ℕ → Option Bool) → ℕ → ℕ → Bool → ℕ → ℕ → Option Bool
with_wait_at waiting unit number b other at = if unit == other then if number == at then Some b else waiting other at else waiting other at

-- whether the instances of a world wait
abbrev pub waiting_of : World → ℕ → ℕ → Option Bool
waiting_of w unit number = option_and_then (λ b. option_map (λ x. is_open (status_of w b) && is_none x.owner) (slice_get b.instances number)) (unit_at w unit)

-- the instance at a place waits
abbrev pub waits_at : (ℕ → ℕ → Option Bool) → Place → Bool
waits_at waiting p = unwrap_or (waiting p.unit p.number) false

-- ---- a window

-- the place is before this one, if there is one
abbrev pub is_before_end : Option Place → Place → Bool
is_before_end None p = true
is_before_end (Some end) p = is_before p end

-- the place is from one place on and before the end
abbrev pub is_within : Place → Option Place → Place → Bool
is_within from end p = not (is_before p from) && is_before_end end p

-- These are the places of what waits from one place on and before the end, in order.
pub record AreWaiting (waiting : ℕ → ℕ → Option Bool) (from : Place) (end : Option Place) (places : List Place) : Type 0 where
  pub sorted : AreSorted places
  pub each : (p : Place) → has places p ≡ (is_within from end p && waits_at waiting p)
  pub ends : IfSome end (λ end. is_before end from ≡ false)

-- the places of the window are those of what waits from its first place on and before its end
abbrev pub IsWindowFor : (ℕ → ℕ → Option Bool) → QueueWindow → Type 0
IsWindowFor waiting window = AreWaiting waiting window.from window.end window.places

-- the same of what waits in a world
abbrev pub IsWindowOf : World → QueueWindow → Type 0
IsWindowOf w = IsWindowFor (waiting_of w)
