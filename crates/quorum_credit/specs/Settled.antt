-- Words. What the reports of a workunit lead to.
use Rattle.std.specs.Prelude.{ℕ, if◌then◌else◌, List, map, Option}
use Rattle.sched_book.specs.Count.{status, is_open, need, verdict}
use Rattle.sched_book.specs.declared.rows.Agreement.{Agreement}
use Rattle.sched_book.specs.declared.rows.Workunit.{Workunit}
use Rattle.sched_book.specs.declared.instance.Instance.{Instance}
use Rattle.sched_book.specs.declared.instance.Verdict.{Verdict}

-- how many instances it is to get: what it needs if it is open, else none
abbrev pub new_instances : Agreement → Workunit → List Instance → ℕ
new_instances a u xs = if is_open (status a u xs) then need u xs else 0

-- the verdicts on its instances, by number
abbrev pub verdicts : Agreement → Workunit → List Instance → List (Option Verdict)
verdicts a u xs = map (verdict a u xs) xs
