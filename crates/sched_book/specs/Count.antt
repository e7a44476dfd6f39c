-- Promise. What is counted of a workunit from scratch: agreement, the canonical result, how many instances it needs, its
-- status and the verdicts on its instances. The limits are those of BOINC's workunits. Counting them exactly, from all
-- reports each time, is this profile's own. The instances of a workunit are a list, and an instance's number is its
-- index there.
use Rattle.std.specs.Prelude.{◌≡◌, ℕ, ◌+◌, ◌-◌, ◌/◌, max, Bool, true, false, not, ◌&&◌, ◌||◌, nat_lt, nat_le, if◌then◌else◌, List, [], ◌∷◌, ◌++◌, length, take, drop, fold, find, count_by, insert, Option, Some, None, option_and_then, is_some, is_none, unwrap_or, slice_get}
use Rattle.std.specs.List.{prefix_len}
use Rattle.std.specs.Str.{bytes_eq}
use Rattle.sched_book.specs.WholeNumbers.{whole_number, are_within}
use Rattle.sched_book.specs.declared.count.Decided.{Decided}
use Rattle.sched_book.specs.declared.rows.Agreement.{Agreement}
use Rattle.sched_book.specs.declared.rows.Agreement.TheVariants.{Exact, Within}
use Rattle.sched_book.specs.declared.rows.Workunit.{Workunit}
use Rattle.sched_book.specs.declared.instance.Instance.{Instance}
use Rattle.sched_book.specs.declared.instance.Outcome.{Outcome}
use Rattle.sched_book.specs.declared.instance.Status.{Status}
use Rattle.sched_book.specs.declared.instance.Status.TheVariants.{Open, Done, FailedErrors, FailedSuccess, FailedTotal}
use Rattle.sched_book.specs.declared.instance.Verdict.{Verdict}
use Rattle.sched_book.specs.declared.instance.Verdict.TheVariants.{Valid, Invalid}

-- two outputs agree
abbrev pub agree : Agreement → List ℕ → List ℕ → Bool
agree Exact x y = bytes_eq x y
agree (Within n) x y = bytes_eq x y || are_within n (whole_number x) (whole_number y)

-- the report was judged, and says that the job was a success
abbrev pub tells_success : Option Outcome → Bool
tells_success None = false
tells_success (Some r) = r.success && is_some r.place

-- the report was judged, and says that the job was a client error
abbrev pub tells_error : Option Outcome → Bool
tells_error None = false
tells_error (Some r) = not r.success && is_some r.place

-- the place of its report among the judged ones, if it was judged
abbrev pub report_place : Instance → Option ℕ
report_place x = option_and_then (λ (r : Outcome). r.place) x.report

abbrev pub is_judged : Instance → Bool
is_judged x = is_some (report_place x)

abbrev pub reported_output : Option Outcome → List ℕ
reported_output None = []
reported_output (Some r) = r.output

-- the place of a judged report, and 0 of any other
abbrev pub reported_place : Option Outcome → ℕ
reported_place None = 0
reported_place (Some r) = unwrap_or r.place 0

-- a host has it: an owner, no report and no lapse
abbrev pub is_held : Instance → Bool
is_held x = is_some x.owner && is_none x.report && is_none x.lapse

-- it may still bring a result: it was not given to a host, or a host holds it
abbrev pub is_live : Instance → Bool
is_live x = is_none x.owner || is_held x

-- Two instances count the same: both have the same report, and both or neither may still bring a result. Nothing else of
-- an instance decides anything of its workunit.
abbrev pub CountAlike : Instance → Instance → Type 0
CountAlike x y = (is_live x ≡ is_live y) × (x.report ≡ y.report)

abbrev pub report_of : List Instance → ℕ → Option Outcome
report_of xs i = option_and_then (λ x. x.report) (slice_get xs i)

abbrev pub output_of : List Instance → ℕ → List ℕ
output_of xs i = reported_output (report_of xs i)

abbrev pub place_of : List Instance → ℕ → ℕ
place_of xs i = reported_place (report_of xs i)

-- the numbers of the instances that pass; the first instance has the number n
abbrev pub numbers_from : ℕ → (Instance → Bool) → List Instance → List ℕ
numbers_from n p [] = []
numbers_from n p (x ∷ xs) = if p x then n ∷ numbers_from (n + 1) p xs else numbers_from (n + 1) p xs

-- inserts i after the longest front whose keys are all at most that of i
abbrev pub put_by : (ℕ → ℕ) → List ℕ → ℕ → List ℕ
put_by key is i = insert is (prefix_len (λ j. nat_le (key j) (key i)) is) i

-- the good reports: the numbers of the judged successes, in the order of the places of their reports
abbrev pub good : List Instance → List ℕ
good xs = fold (put_by (place_of xs)) [] (numbers_from 0 (λ x. tells_success x.report) xs)

abbrev pub errors : List Instance → ℕ
errors xs = count_by (λ x. tells_error x.report) xs

abbrev pub live : List Instance → ℕ
live xs = count_by is_live xs

-- how many of these reports agree with report i; it counts itself
abbrev pub votes : Agreement → List Instance → List ℕ → ℕ → ℕ
votes a xs reports i = count_by (λ j. agree a (output_of xs i) (output_of xs j)) reports

-- the first of these reports that has enough votes among them
abbrev pub leader : Agreement → List Instance → ℕ → List ℕ → Option ℕ
leader a xs enough reports = find (λ i. nat_le enough (votes a xs reports i)) reports

-- the leader of the shortest front of the reports that has one; this front is the first that counts
abbrev pub first_leader : Agreement → List Instance → ℕ → List ℕ → List ℕ → Option ℕ
first_leader a xs enough front [] = leader a xs enough front
first_leader a xs enough front (i ∷ rest) =
    if is_some (leader a xs enough front)
    then leader a xs enough front
    else first_leader a xs enough (front ++ i ∷ []) rest

-- more than half of a quorum
abbrev pub majority : Workunit → ℕ
majority u = u.min_quorum / 2 + 1

-- The number of the canonical result. Take the shortest front of the good reports that is at least a quorum long and in
-- which some report agrees with a majority. It is the first such report.
abbrev pub canonical : Agreement → Workunit → List Instance → Option ℕ
canonical a u xs =
    if nat_le u.min_quorum (length (good xs))
    then first_leader a xs (majority u) (take u.min_quorum (good xs)) (drop u.min_quorum (good xs))
    else None

-- how many results the workunit wants by now, if it has so many successes
abbrev pub want : Workunit → ℕ → ℕ
want u successes = max u.target_nresults (if nat_le u.min_quorum successes then successes + 1 else 0)

-- how many more instances it needs
abbrev pub need : Workunit → List Instance → ℕ
need u xs = want u (length (good xs)) - live xs - length (good xs)

-- the status of a workunit that has this canonical result, or none
abbrev pub status_with : Option ℕ → Workunit → List Instance → Status
status_with c u xs =
    if is_some c then Done
    else (if nat_lt u.max_error_results (errors xs) then FailedErrors
    else (if nat_lt u.max_success_results (length (good xs)) then FailedSuccess
    else (if nat_lt u.max_total_results (length xs + need u xs) then FailedTotal
    else Open)))

abbrev pub status : Agreement → Workunit → List Instance → Status
status a u xs = status_with (canonical a u xs) u xs

-- what is decided of a workunit: its canonical result, and its status
abbrev pub decided : Agreement → Workunit → List Instance → Decided
decided a u xs = record { canonical = canonical a u xs; status = status a u xs }

abbrev pub is_open : Status → Bool
is_open Open = true
is_open Done = false
is_open FailedErrors = false
is_open FailedSuccess = false
is_open FailedTotal = false

abbrev pub has_failed : Status → Bool
has_failed Open = false
has_failed Done = false
has_failed FailedErrors = true
has_failed FailedSuccess = true
has_failed FailedTotal = true

-- the verdict on a judged success, by the number of the canonical result
abbrev pub verdict_by : Agreement → List Instance → Option ℕ → Instance → Option Verdict
verdict_by a xs None x = None
verdict_by a xs (Some c) x =
    if tells_success x.report
    then Some (if agree a (reported_output x.report) (output_of xs c) then Valid else Invalid)
    else None

-- a verdict exists only for a judged success, once the workunit has a canonical result
abbrev pub verdict : Agreement → Workunit → List Instance → Instance → Option Verdict
verdict a u xs x = verdict_by a xs (canonical a u xs) x

abbrev pub is_valid : Option Verdict → Bool
is_valid None = false
is_valid (Some Valid) = true
is_valid (Some Invalid) = false

abbrev pub is_invalid : Option Verdict → Bool
is_invalid None = false
is_invalid (Some Valid) = false
is_invalid (Some Invalid) = true
