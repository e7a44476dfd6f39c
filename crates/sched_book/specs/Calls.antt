-- Rule. What a call may contain.
use Rattle.rpc_records.specs.Ranges.{IsInRange}
use Rattle.sched_book.specs.declared.machine.Call.{Call}
use Rattle.sched_book.specs.declared.machine.Call.TheVariants as call

-- the values of a call are in range; for an import, `AreChecked` says so of its rows
abbrev pub IsCallInLimits : Call → Type 0
IsCallInLimits (call.Rpc c r) = IsInRange r
IsCallInLimits (call.Import new) = Unit {0}
IsCallInLimits call.Tick = Unit {0}
