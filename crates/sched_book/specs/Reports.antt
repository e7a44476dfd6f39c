-- Promise. What a call's reports do to the instances of its host.
use Rattle.std.specs.Prelude.{ℕ, ◌+◌, ◌-◌, Bool, ◌&&◌, ◌==◌, zero, suc, if◌then◌else◌, List, [], ◌∷◌, fold, count_by, Option, Some, None, is_none, option_map, unwrap_or, nat_abs}
use Rattle.std.specs.List.{list_any}
use Rattle.std.specs.Str.{bytes_eq}
use Rattle.rpc_records.specs.declared.request.Report.{Report}
use Rattle.sched_book.specs.Count.{is_judged, has_failed}
use Rattle.sched_book.specs.Places.{unit_at, passes, is_owned_by, status_at, place_named}
use Rattle.sched_book.specs.declared.instance.Instance.{Instance}
use Rattle.sched_book.specs.declared.instance.Outcome.{Outcome}
use Rattle.sched_book.specs.declared.instance.Place.{Place}
use Rattle.sched_book.specs.declared.instance.UnitBook.{UnitBook}
use Rattle.sched_book.specs.declared.world.World.{World}

-- the list with f applied to the element at an index
abbrev pub modify_at : {X : Type 0} → (X → X) → List X → ℕ → List X
modify_at f [] i = []
modify_at f (x ∷ xs) zero = f x ∷ xs
modify_at f (x ∷ xs) (suc i) = x ∷ modify_at f xs i

-- the same, with places that count from 1; at place 0 nothing changes
abbrev pub modify_nth : {X : Type 0} → (X → X) → List X → ℕ → List X
modify_nth f xs n = if n == 0 then xs else modify_at f xs (n - 1)

-- a workunit with f applied to the instance of a number
abbrev pub with_number : (Instance → Instance) → ℕ → UnitBook → UnitBook
with_number f number b = record b { instances = modify_at f b.instances number }

-- the world with f applied to the instance at a place; if there is none, nothing changes
abbrev pub with_changed : (Instance → Instance) → World → Place → World
with_changed f w p = record w { units = modify_nth (with_number f p.number) w.units p.unit }

-- the elements whose text no earlier element has, and that is not among the seen texts
abbrev pub first_of_each : {X : Type 0} → (X → List ℕ) → List (List ℕ) → List X → List X
first_of_each text seen [] = []
first_of_each text seen (x ∷ xs) =
    if list_any (bytes_eq (text x)) seen
    then first_of_each text seen xs
    else x ∷ first_of_each text (text x ∷ seen) xs

-- the first report of each name
abbrev pub first_reports : List Report → List Report
first_reports reports = first_of_each (λ r. r.name) [] reports

-- the place of the next judged report of a workunit
abbrev pub next_place : World → ℕ → ℕ
next_place w unit = unwrap_or (option_map (λ b. 1 + count_by is_judged b.instances) (unit_at w unit)) 1

-- what is kept of a report: as in BOINC, exit status 0 is a success and any other a client error
abbrev pub outcome_of : Report → Option ℕ → Outcome
outcome_of r place = record { success = (nat_abs r.exit_status == 0); output = r.output; place = place }

abbrev pub with_report : Report → Option ℕ → Instance → Instance
with_report r place x = record x { report = Some (outcome_of r place) }

-- the instance was given to the host, which has not reported it yet
abbrev pub awaits_report : ℕ → Instance → Bool
awaits_report host x = is_owned_by host x && is_none x.report

-- the place that a report on an instance of the workunit gets: none if the workunit had failed at entry
abbrev pub judged_place : World → World → ℕ → Option ℕ
judged_place entry w unit = if has_failed (status_at entry unit) then None else Some (next_place w unit)

-- the world with one more report, if its instance awaits it; it is recorded even if the instance lapsed
abbrev pub record_at : World → ℕ → Report → World → Place → World
record_at entry host r w p =
    if passes w (λ b x. awaits_report host x) p
    then with_changed (with_report r (judged_place entry w p.unit)) w p
    else w

abbrev pub record_one : World → ℕ → World → Report → World
record_one entry host w r = unwrap_or (option_map (record_at entry host r w) (place_named entry r.name)) w

-- the world at entry with the first report of each name recorded, in their order
abbrev pub recorded : World → ℕ → List Report → World
recorded entry host reports = fold (record_one entry host) entry (first_reports reports)
