use Rattle.std.proofs.Common.{ℕ, ◌<◌, ◌≤◌, length, get_or}
use Rattle.reply_register.specs.declared.kept.Kept.{Kept}
use Rattle.reply_register.proofs.keeping.least_of.Given as goal

-- the place of the least number so far
abbrev pub invariant-loop-place : goal.invariant-loop-place
invariant-loop-place l =
    record { within : l.least < length l.kept; least : (d : Kept) (i : ℕ) → i < l.place → (get_or l.kept l.least d).seqno ≤ (get_or l.kept i d).seqno }
