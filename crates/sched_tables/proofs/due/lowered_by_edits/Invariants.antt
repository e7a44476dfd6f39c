use Rattle.std.proofs.Common.{◌≡◌, drop}
use Rattle.std.specs.Prelude.{fold}
use Rattle.sched_tables.specs.DueFrom.{lowered_by}
use Rattle.sched_tables.proofs.due.lowered_by_edits.Given as goal

-- the edits that are left lower the moment so far to what all edits lower it to
abbrev pub invariant-loop-edit : goal.invariant-loop-edit
invariant-loop-edit l = fold lowered_by l.lower (drop l.edit-index l.edits) ≡ fold lowered_by l.due_from l.edits
