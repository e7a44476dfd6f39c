use Rattle.std.proofs.Common.{◌≡◌, ◌++◌, drop}
use Rattle.sched_machine.specs.Asked.{resent_places}
use Rattle.sched_machine.proofs.lost.resent_places.Given as goal

-- the places so far, and those of the lost jobs that are left
abbrev pub invariant-loop-fate : goal.invariant-loop-fate
invariant-loop-fate l = l.places ++ resent_places (drop l.fate-index l.fates) ≡ resent_places l.fates
