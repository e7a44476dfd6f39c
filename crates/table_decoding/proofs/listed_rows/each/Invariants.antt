use Rattle.std.proofs.Common.{◌≡◌, ℕ, List, Some, take}
use Rattle.std.specs.declared.result.Result.{Result}
use Rattle.std.specs.Fn.{FnReturnsAt}
use Rattle.sched_book.specs.Places.{nth}
use Rattle.sched_book.specs.Numbered.{map_from}
use Rattle.table_decoding.specs.Decoding.{Gives}
use Rattle.table_decoding.specs.declared.fault.RowFault.{RowFault}
use Rattle.table_decoding.proofs.listed_rows.each.Given as goal

abbrev pub invariant-loop-row : goal.invariant-loop-row
invariant-loop-row g l =
    (place : ℕ → g.row.T.Denot → g.row.R.Denot) (xs : List g.row.T.Denot)
    → ((id : ℕ) (x : g.row.T.Denot) (told_as : Result g.row.T.Denot RowFault) → nth xs id ≡ Some x → FnReturnsAt g.F.Fn l.told (place id x) told_as → Gives told_as x)
    → l.rows ≡ map_from 1 place xs → l.items ≡ take l.row-index xs
