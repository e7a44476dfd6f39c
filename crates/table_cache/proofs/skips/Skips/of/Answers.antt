use Rattle.std.proofs.Common.{sym, subst}
use Rattle.std.specs.Prelude.{All}
use Rattle.table_cache.specs.Covering.{IsSkipFor, IsUserSkip}
use Rattle.table_cache.proofs.SkipMoves.{none_covered, skip_of_user}
use Rattle.table_cache.proofs.skips.Skips.of.Goals as goal

pub returns-in-None : goal.returns-in-None
returns-in-None c = λ waiting jobs hosts are. none_covered jobs hosts waiting c.args.account c.args.self.now.nowhere are.nowhere

pub returns-in-Some-skip_among : goal.returns-in-Some-skip_among
returns-in-Some-skip_among c = λ waiting jobs hosts are.
    let user = c.in-Some-skip_among.user.now in
    subst (λ a. IsSkipFor waiting jobs hosts a user.skip) (sym c.in-Some.is)
    (skip_of_user waiting jobs hosts c.as_slice.result.now c.in-Some.account user (sym c.in-Some-skip_among.ensures)
    (subst (All (IsUserSkip waiting jobs hosts)) (sym c.as_slice.ensures.value) are.users))
