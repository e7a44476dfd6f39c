-- Promise. What follows from reports and lapses: new instances, and the quota of each host. BOINC names the
-- daily_result_quota; how it moves is this profile's.
use Rattle.std.specs.Prelude.{ℕ, ◌+◌, ◌-◌, ◌*◌, ◌^◌, min, max, Bool, true, false, not, ◌&&◌, if◌then◌else◌, ◌++◌, map, replicate, count_by, Option, Some, None}
use Rattle.std.specs.List.{enumerate_from}
use Rattle.sched_book.specs.Count.{is_open, need, tells_error, is_valid, is_invalid}
use Rattle.sched_book.specs.Places.{book_status, verdict_of, passes, places, is_owned_by}
use Rattle.sched_book.specs.declared.rows.HostRow.{HostRow}
use Rattle.sched_book.specs.declared.instance.Instance.{Instance}
use Rattle.sched_book.specs.declared.instance.Lapse.{Lapse}
use Rattle.sched_book.specs.declared.instance.Lapse.TheVariants.{Late, Dropped}
use Rattle.sched_book.specs.declared.instance.UnitBook.{UnitBook}
use Rattle.sched_book.specs.declared.rows.App.{App}
use Rattle.sched_book.specs.declared.world.World.{World}
use Rattle.std.specs.Prelude.{List}

-- an instance that was given to nobody
abbrev pub fresh : Instance
fresh = record { owner = None; lapse = None; report = None }

-- a workunit with the instances that it needs, if it is open
abbrev pub grown : List App → UnitBook → UnitBook
grown apps b =
    if is_open (book_status apps b) then record b { instances = b.instances ++ replicate (need b.unit b.instances) fresh } else b

abbrev pub with_grown : World → World
with_grown w = record w { units = map (grown w.apps) w.units }

abbrev pub is_late : Option Lapse → Bool
is_late None = false
is_late (Some Late) = true
is_late (Some Dropped) = false

-- how many of the host's instances pass a test in the new world, and did not pass it in the old one
abbrev pub newly : (World → UnitBook → Instance → Bool) → World → World → ℕ → ℕ
newly test old new host =
    count_by (λ p. passes new (λ b x. is_owned_by host x && test new b x) p && not (passes old (test old) p)) (places new)

-- what counts against a host: new client errors, late jobs and invalid results; a dropped job does not count
abbrev pub charges : World → World → ℕ → ℕ
charges old new host =
    newly (λ w b x. tells_error x.report) old new host + newly (λ w b x. is_late x.lapse) old new host
    + newly (λ w b x. is_invalid (verdict_of w b x)) old new host

-- what counts for it: new valid results
abbrev pub merits : World → World → ℕ → ℕ
merits old new host = newly (λ w b x. is_valid (verdict_of w b x)) old new host

-- a quota minus e, but at least one; then doubled v times, but at most the limit
abbrev pub next_quota : ℕ → ℕ → ℕ → ℕ → ℕ
next_quota q e v limit = min limit (max 1 (q - e) * 2 ^ v)

-- the host of a number, with its new quota
abbrev pub with_quota : World → World → ℕ × HostRow → HostRow
with_quota old new host =
    record host.1 { quota = next_quota host.1.quota (charges old new host.0) (merits old new host.0) old.settings.daily_result_quota }

-- The world after settlement. `old` is the world before the changes, and `changed` is the world with them.
abbrev pub settled : World → World → World
settled old changed = record (with_grown changed) { hosts = map (with_quota old (with_grown changed)) (enumerate_from 1 changed.hosts) }
