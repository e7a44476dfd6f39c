-- Words. What a call's reports change, and which workunits they touch.
use Rattle.std.specs.Prelude.{◌≡◌, ℕ, ◌+◌, Bool, false, ◌==◌, if◌then◌else◌, List, count_by, Option, Some, None, option_map, slice_get}
use Rattle.std.specs.List.{list_any}
use Rattle.rpc_records.specs.declared.request.Report.{Report}
use Rattle.sched_book.specs.Count.{is_judged}
use Rattle.sched_book.specs.Places.{option_any}
use Rattle.sched_book.specs.Reports.{awaits_report, with_report}
use Rattle.sched_book.specs.declared.delta.Edit.{Edit}
use Rattle.sched_book.specs.declared.delta.Edit.TheVariants as edit
use Rattle.sched_book.specs.declared.instance.Instance.{Instance}
use Rattle.call_working_set.specs.WorkingSets.{AreRising}

-- the place that the next report of a workunit with these instances gets: none if the workunit had failed
abbrev pub place_among : Bool → List Instance → Option ℕ
place_among failed xs = if failed then None else Some (1 + count_by is_judged xs)

-- the instance of a number with one more report, if it awaits it
abbrev pub reported_in : ℕ → Report → Bool → List Instance → ℕ → Option Instance
reported_in host r failed xs number =
    if option_any (awaits_report host) (slice_get xs number)
    then option_map (with_report r (place_among failed xs)) (slice_get xs number)
    else None

-- the change is of an instance of the workunit, or of its class
abbrev pub touches : ℕ → Edit → Bool
touches unit (edit.Host number h) = false
touches unit (edit.Instance p x) = p.unit == unit
touches unit (edit.Class place class) = place == unit

-- These are the places of the workunits that the changes touch, in order and each once.
pub record AreTouched (changes : List Edit) (units : List ℕ) : Type 0 where
  pub rising : AreRising units
  pub just : (unit : ℕ) → list_any (λ n. n == unit) units ≡ list_any (touches unit) changes
