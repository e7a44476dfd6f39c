use Rattle.std.proofs.Common.{◌≡◌, take}
use Rattle.table_desk.specs.Skips.{first_listed}
use Rattle.table_desk.proofs.skip.first_listed.Given as goal

-- it is the one of the places so far
abbrev pub invariant-loop-place : goal.invariant-loop-place
invariant-loop-place l = l.next ≡ first_listed l.fn.from l.fn.until (take l.place-index l.places)
