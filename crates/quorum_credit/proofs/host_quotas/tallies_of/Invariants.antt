use Rattle.std.proofs.Common.{◌≡◌, ℕ, None, drop}
use Rattle.quorum_credit.specs.Tallies.{tally_after, tally_in}
use Rattle.quorum_credit.proofs.host_quotas.tallies_of.Given as goal

-- the scores so far, and those that are left
abbrev pub invariant-loop-score : goal.invariant-loop-score
invariant-loop-score l = (host : ℕ) → tally_after host (tally_in l.tallies host) (drop l.score-index l.scores) ≡ tally_after host None l.scores
