-- Rule. What follows from the definitions.
use Rattle.std.specs.Prelude.{◌≡◌, ℕ, List, map, fold, Option}
use Rattle.rpc_records.specs.declared.request.Report.{Report}
use Rattle.sched_book.specs.Reports.{recorded}
use Rattle.sched_book.specs.Lost.{lost, resend_or_drop}
use Rattle.sched_book.specs.declared.rows.HostRow.{HostRow}
use Rattle.sched_book.specs.declared.world.World.{World}
use Rattle.lost_jobs.specs.Holding.{HoldsNoMore, KeepsDeadlines}
use Rattle.lost_jobs.specs.Fates.{fate}
use Rattle.lost_jobs.specs.Fated.{with_fate, AreByPlace}

-- what a host holds after reports it held before, with the same deadlines
abbrev pub ReportsHoldNoMore : Type 0
ReportsHoldNoMore = (entry : World) (host : ℕ) (reports : List Report) → HoldsNoMore entry (recorded entry host reports) host

abbrev pub ReportsKeepDeadlines : Type 0
ReportsKeepDeadlines = (entry : World) (host : ℕ) (reports : List Report) → KeepsDeadlines entry (recorded entry host reports) host

-- The fates of the lost jobs follow from their places, and send each job again or drop it. This assumes that what the
-- host holds has the deadlines that it had at entry.
abbrev pub FatesResendOrDrop : Type 0
FatesResendOrDrop = (entry w : World) (h : HostRow) (now host : ℕ) (names : Option (List (List ℕ))) → KeepsDeadlines entry w host
    → AreByPlace (map (fate entry h now) (lost w host names))
    × (fold with_fate w (map (fate entry h now) (lost w host names)) ≡ fold (resend_or_drop entry h now) w (lost w host names))
