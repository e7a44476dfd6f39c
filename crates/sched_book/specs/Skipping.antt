-- Rule. Which instances wait, and before which place a user had an instance of the workunit of each.
use Rattle.std.specs.Prelude.{ℕ, Bool, ◌&&◌, is_none, IsTrue}
use Rattle.sched_book.specs.Count.{is_open}
use Rattle.sched_book.specs.Places.{option_any, passes, is_before, status_of, unit_at, user_had}
use Rattle.sched_book.specs.declared.desk.Candidate.{Candidate}
use Rattle.sched_book.specs.declared.instance.Place.{Place}
use Rattle.sched_book.specs.declared.world.World.{World}

-- the instance at a place waits: its workunit is open, and it was given to nobody
abbrev pub waits : World → Place → Bool
waits w = passes w (λ b x. is_open (status_of w b) && is_none x.owner)

-- some instance of the workunit at a place was given to a host of the user
abbrev pub user_had_at : World → ℕ → ℕ → Bool
user_had_at w account unit = option_any (user_had w account) (unit_at w unit)

-- it is a candidate of a workunit that the user had an instance of
abbrev pub IsHadBy : World → ℕ → Candidate → Type 0
IsHadBy w account c = IsTrue (user_had_at w account c.place.unit)

-- Before this place, each instance that waits is of a workunit that the user had an instance of.
abbrev pub HadAllBefore : World → ℕ → Place → Type 0
HadAllBefore w account before = (p : Place) → IsTrue (waits w p) → IsTrue (is_before p before) → IsTrue (user_had_at w account p.unit)
