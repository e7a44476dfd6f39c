use Rattle.std.proofs.Common.{Some, sym, ap, ◌∙◌}
use Rattle.std.specs.Prelude.{◌==◌, position}
use Rattle.table_cache.specs.declared.skips.UserSkip.{UserSkip}
use Rattle.table_cache.proofs.SkipMoves.{none_covered, had_at}
use Rattle.table_cache.proofs.skips.Skips.raise.Goals as goal

pub returns-in-Some : goal.returns-in-Some
returns-in-Some c = λ waiting jobs hosts had are.
    let users = c.args.self.now.users.items in
    let found = ap (position (λ (u : UserSkip). u.account == c.args.account)) (sym c.as_slice.ensures.value) ∙ sym c.in-Some.ensures in
    record {
      users = c.raise_at.ensures waiting jobs hosts (had_at waiting jobs hosts users c.args.account c.in-Some.at c.args.place found had) are.users;
      nowhere = are.nowhere;
    }

pub returns : goal.returns
returns c = λ waiting jobs hosts had are. record {
  users = c.push_skip.ensures waiting jobs hosts are.users (c.raise.ensures.skip waiting jobs hosts had (none_covered jobs hosts waiting (Some c.args.account) c.nowhere.result c.nowhere.ensures));
  nowhere = are.nowhere;
}
