use Rattle.std.proofs.Common.{◌≡◌, max, drop}
use Rattle.reply_register.specs.Calls.{greatest}
use Rattle.reply_register.proofs.kept.greatest.Given as goal

-- the greater of the greatest so far and the greatest of the rest is the greatest of all
abbrev pub invariant-loop-call : goal.invariant-loop-call
invariant-loop-call l = max l.most (greatest (drop l.call-index l.kept)) ≡ greatest l.kept
