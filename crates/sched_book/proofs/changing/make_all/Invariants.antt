use Rattle.std.proofs.Common.{◌≡◌, drop}
use Rattle.sched_book.specs.Delta.{edited}
use Rattle.sched_book.proofs.changing.make_all.Given as goal

-- the edits made so far, and those that are left
abbrev pub invariant-loop-edit : goal.invariant-loop-edit
invariant-loop-edit l = edited l.world (drop l.edit-index l.edits) ≡ edited l.initial.world l.edits
