use Rattle.std.proofs.Common.{take}
use Rattle.quorum_credit.proofs.Touching.{HasTouched}
use Rattle.quorum_credit.proofs.outer_calls.touched_by.Given as goal

-- the workunits that the edits so far touch
abbrev pub invariant-loop-edit : goal.invariant-loop-edit
invariant-loop-edit l = HasTouched (take l.edit-index l.edits) l.units
