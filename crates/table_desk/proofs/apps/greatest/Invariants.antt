use Rattle.std.proofs.Common.{◌≡◌, take}
use Rattle.table_desk.specs.Versions.{greatest}
use Rattle.table_desk.proofs.apps.greatest.Given as goal

abbrev pub invariant-loop-number : goal.invariant-loop-number
invariant-loop-number l = l.best ≡ greatest (take l.number-index l.numbers)
