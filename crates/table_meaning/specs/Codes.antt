-- Rule. The numbers that the tables write for a status and for a lapse, and what each number means.
use Rattle.std.specs.Prelude.{ℕ, ◌==◌, if◌then◌else◌, Option, Some, None}
use Rattle.sched_book.specs.declared.instance.Lapse.{Lapse}
use Rattle.sched_book.specs.declared.instance.Lapse.TheVariants.{Late, Dropped}
use Rattle.sched_book.specs.declared.instance.Status.{Status}
use Rattle.sched_book.specs.declared.instance.Status.TheVariants.{Open, Done, FailedErrors, FailedSuccess, FailedTotal}

abbrev pub status_code : Status → ℕ
status_code Open = 0
status_code Done = 1
status_code FailedErrors = 2
status_code FailedSuccess = 3
status_code FailedTotal = 4

-- the status of a number, if it has one
abbrev pub status_of_code : ℕ → Option Status
status_of_code n = if n == 0 then Some Open else (if n == 1 then Some Done else (if n == 2 then Some FailedErrors else (if n == 3 then Some FailedSuccess else (if n == 4 then Some FailedTotal else None))))

abbrev pub lapse_code : Option Lapse → ℕ
lapse_code None = 0
lapse_code (Some Late) = 1
lapse_code (Some Dropped) = 2

-- the lapse of a number, or none
abbrev pub lapse_in : ℕ → Option Lapse
lapse_in code = if code == 1 then Some Late else (if code == 2 then Some Dropped else None)
