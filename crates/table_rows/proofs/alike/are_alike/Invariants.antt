use Rattle.std.proofs.Common.{◌≡◌, take}
use Rattle.table_rows.specs.Plain.{Each}
use Rattle.table_rows.proofs.alike.are_alike.Given as goal

-- the items so far are equal, and plain
abbrev pub invariant-loop-at : goal.invariant-loop-at
invariant-loop-at g l = (take l.at l.first ≡ take l.at l.second) × Each g.T.Alike.is_plain (take l.at l.second)
