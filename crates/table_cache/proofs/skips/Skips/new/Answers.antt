use Rattle.std.proofs.Common.{sym, subst}
use Rattle.std.specs.Prelude.{All}
use Rattle.std.proofs.lemmas.List.Elements.{All-nil}
use Rattle.table_cache.specs.Covering.{IsUserSkip}
use Rattle.table_cache.proofs.skips.Skips.new.Goals as goal

pub returns : goal.returns
returns c = λ waiting jobs hosts. record {
  users = subst (All (IsUserSkip waiting jobs hosts)) (sym c.new.ensures.items) (All-nil _);
  nowhere = c.nowhere.ensures;
}
