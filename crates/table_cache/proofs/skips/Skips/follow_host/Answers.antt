use Rattle.std.proofs.Common.{rules}
use Rattle.table_cache.proofs.SkipMoves.{hosts_followed}
use Rattle.table_cache.proofs.skips.Skips.follow_host.Goals as goal

pub returns-then-not-keeps_account : goal.returns-then-not-keeps_account
returns-then-not-keeps_account c = λ waiting jobs hosts known are. c.forget_all.ensures _ _ _

pub returns-else-not-keeps_account : goal.returns-else-not-keeps_account
returns-else-not-keeps_account c = λ waiting jobs hosts known are. hosts_followed waiting jobs hosts c.args.self.now are c.args.row.now (c.keeps_account.ensures (search rules) hosts known)
