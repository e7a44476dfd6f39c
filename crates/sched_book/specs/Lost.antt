-- Promise. The jobs that a client lost, and the names that it should no longer work on. That lost jobs are sent again is
-- BOINC's resend_lost_results, and result_abort is BOINC's; the exact rules are this profile's.
use Rattle.std.specs.Prelude.{ℕ, ◌+◌, Bool, true, not, ◌&&◌, ◌||◌, nat_le, if◌then◌else◌, List, [], filter, Option, Some, None, option_map, unwrap_or}
use Rattle.std.specs.List.{list_any}
use Rattle.std.specs.Str.{bytes_eq}
use Rattle.sched_book.specs.Count.{is_open, has_failed}
use Rattle.sched_book.specs.Places.{option_any, unit_at, passes, held_by, status_at, place_named, name_at}
use Rattle.sched_book.specs.Fits.{unit_fits, estimate_at}
use Rattle.sched_book.specs.Reports.{with_changed, first_of_each, awaits_report}
use Rattle.sched_book.specs.declared.rows.HostRow.{HostRow}
use Rattle.sched_book.specs.declared.instance.Instance.{Instance}
use Rattle.sched_book.specs.declared.instance.Lapse.{Lapse}
use Rattle.sched_book.specs.declared.instance.Lapse.TheVariants.{Dropped}
use Rattle.sched_book.specs.declared.instance.Owner.{Owner}
use Rattle.sched_book.specs.declared.instance.Place.{Place}
use Rattle.sched_book.specs.declared.world.World.{World}

-- the name of the instance at a place is in the client's list
abbrev pub is_listed : World → List (List ℕ) → Place → Bool
is_listed w names p = list_any (bytes_eq (name_at w p)) names

-- what the host holds and its client does not list; nothing if the client sent no list
abbrev pub unlisted : World → ℕ → Option (List (List ℕ)) → List Place
unlisted w host None = []
unlisted w host (Some names) = filter (λ p. not (is_listed w names p)) (held_by w host)

-- the lost jobs of a host: what it still holds after the reports, and its client does not list
abbrev pub lost : World → ℕ → Option (List (List ℕ)) → List Place
lost w host names = if w.settings.resend_lost_results then unlisted w host names else []

-- a lost job is sent to its host again if its workunit was open at entry and fits the host
abbrev pub is_resent : World → HostRow → Place → Bool
is_resent entry h p = option_any (λ b. is_open (status_at entry p.unit) && unit_fits entry h b) (unit_at entry p.unit)

-- the seconds from the sending of the instance at a place to its deadline
abbrev pub delay_at : World → Place → ℕ
delay_at w p = unwrap_or (option_map (λ b. b.unit.delay_bound) (unit_at w p.unit)) 0

-- the deadline of a job that is sent again: it stays if the host can still meet it
abbrev pub deadline_after : ℕ → ℕ → ℕ → ℕ → ℕ
deadline_after now seconds delay deadline = if nat_le (now + seconds) deadline then deadline else now + delay

abbrev pub with_deadline : (ℕ → ℕ) → Instance → Instance
with_deadline f x = record x { owner = option_map (λ (o : Owner). record o { deadline = f o.deadline }) x.owner }

abbrev pub with_lapse : Lapse → Instance → Instance
with_lapse lapse x = record x { lapse = Some lapse }

-- the world after one lost job: sent again, or dropped
abbrev pub resend_or_drop : World → HostRow → ℕ → World → Place → World
resend_or_drop entry h now w p =
    if is_resent entry h p
    then with_changed (with_deadline (deadline_after now (estimate_at entry h p) (delay_at entry p))) w p
    else with_changed (with_lapse Dropped) w p

-- the client may forget a name: of no instance of its host, of one that was reported, or of one of a failed workunit
abbrev pub is_aborted : World → ℕ → List ℕ → Bool
is_aborted w host name =
    unwrap_or (option_map (λ p. not (passes w (λ b x. awaits_report host x) p) || has_failed (status_at w p.unit)) (place_named w name)) true

-- the names in the client's list that it may forget, each once, in their order
abbrev pub aborts : World → ℕ → Option (List (List ℕ)) → List (List ℕ)
aborts w host None = []
aborts w host (Some names) = filter (is_aborted w host) (first_of_each (λ name. name) [] names)
