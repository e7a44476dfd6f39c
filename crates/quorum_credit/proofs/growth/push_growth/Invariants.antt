use Rattle.std.proofs.Common.{◌≡◌, ◌-◌, ◌++◌}
use Rattle.quorum_credit.specs.Growing.{fresh_changes}
use Rattle.quorum_credit.proofs.growth.push_growth.Given as goal

-- what is put, and what is left
abbrev pub invariant-loop-number : goal.invariant-loop-number
invariant-loop-number l =
    l.more ++ fresh_changes l.unit l.number (l.end - l.number) ≡ l.initial.more ++ fresh_changes l.unit l.first (l.end - l.first)
