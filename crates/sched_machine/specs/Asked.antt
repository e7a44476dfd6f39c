-- Rule. What a call's host holds, and which of its lost jobs are sent again.
use Rattle.std.specs.Prelude.{ℕ, Bool, true, false, List, filter_map, Option, Some, None, is_some, if◌then◌else◌, option_map, unwrap_or, slice_get}
use Rattle.sched_book.specs.Places.{passes, is_held_by}
use Rattle.sched_book.specs.declared.instance.Place.{Place}
use Rattle.sched_book.specs.declared.world.World.{World}
use Rattle.lost_jobs.specs.declared.fates.Fate.{Fate}
use Rattle.call_working_set.specs.UnitState.{UnitState}

-- the host holds the instance at a place
abbrev pub holds : World → ℕ → Place → Bool
holds w host p = passes w (λ b x. is_held_by host x) p

-- by the state of its workunit, the host still holds an instance that it held when the call came
abbrev pub still_holds : Option UnitState → ℕ → ℕ → Bool
still_holds None host number = true
still_holds (Some k) host number = unwrap_or (option_map (is_held_by host) (slice_get k.present number)) false

-- the place of a lost job, if it is sent again
abbrev pub place_resent : Option ℕ → Place → Option Place
place_resent deadline p = if is_some deadline then Some p else None

-- the places of all lost jobs that are sent again
abbrev pub resent_places : List Fate → List Place
resent_places fates = filter_map (λ (f : Fate). place_resent f.resent f.place) fates
