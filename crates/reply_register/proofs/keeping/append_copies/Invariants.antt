use Rattle.std.proofs.Common.{◌≡◌, ◌++◌, drop}
use Rattle.reply_register.proofs.keeping.append_copies.Given as goal

-- the calls with what is left to add are those before with all to add
abbrev pub invariant-loop-kept : goal.invariant-loop-kept
invariant-loop-kept l = l.calls ++ drop l.kept-index l.more ≡ l.fn.calls ++ l.more
