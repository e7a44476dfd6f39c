use Rattle.std.proofs.Common.{Some, sym, subst}
use Rattle.table_cache.specs.Covering.{IsSkipFor}
use Rattle.table_cache.proofs.SkipMoves.{skip_raised}
use Rattle.table_cache.proofs.skips.UserSkip.raise.Goals as goal

pub returns-clause-skip : goal.returns-clause-skip
returns-clause-skip c = λ waiting jobs hosts had is.
    let user = c.args.self.now in
    subst (IsSkipFor waiting jobs hosts (Some user.account)) (sym c.raise.ensures) (skip_raised jobs hosts waiting user.account c.args.place user.skip had is)
