-- Words. How the first candidate that is new to a user is sought.
use Rattle.std.specs.Prelude.{◌≡◌, false, if◌then◌else◌, Some, unwrap_or}
use Rattle.sched_book.specs.declared.desk.Candidate.{Candidate}
use Rattle.sched_book.specs.declared.desk.Flow.{Flow}
use Rattle.sched_book.specs.declared.desk.Flow.TheVariants.{GoOn, Stop}
use Rattle.job_choice.specs.Past.{known_had}
use Rattle.job_choice.specs.declared.seeking.Seeking.{Seeking}

-- the taker after a candidate, which is new if it is not known that the user had an instance of its workunit
abbrev pub after_seen : Seeking → Candidate → Seeking
after_seen t c = if unwrap_or (known_had t.past.now c.place.unit) false then t else record t { first_new = Some c.place }

-- It goes on if it is known that the user had an instance of the workunit. Otherwise it stops.
abbrev pub Seeks : Seeking → Candidate → Flow → Seeking → Type 0
Seeks old c flow new =
    (flow ≡ (if unwrap_or (known_had old.past.now c.place.unit) false then GoOn else Stop)) × (new ≡ after_seen old c)
