use Rattle.std.proofs.Common.{◌≡◌, ◌++◌, drop}
use Rattle.quorum_credit.specs.Scoring.{scores_from}
use Rattle.quorum_credit.proofs.scores.push_scores.Given as goal

-- the scores so far, and those of the instances that are left
abbrev pub invariant-loop-number : goal.invariant-loop-number
invariant-loop-number l =
    l.scores ++ scores_from l.credit l.old l.number (drop l.number l.new) ≡ l.initial.scores ++ scores_from l.credit l.old 0 l.new
