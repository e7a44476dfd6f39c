use Rattle.std.proofs.Common.{sym, ap, subst}
use Rattle.std.specs.Prelude.{All, is_ok}
use Rattle.std.proofs.lemmas.List.Elements.{All-nil}
use Rattle.table_cache.specs.Covering.{IsUserSkip}
use Rattle.table_cache.proofs.SkipMoves.{maybe_pushed}
use Rattle.table_cache.proofs.skips.push_skip.Goals.{then-len-ge-MOST_SKIPS, else-len-ge-MOST_SKIPS}
use Rattle.table_cache.proofs.skips.push_skip.Goals as goal

pub returns : goal.returns
returns c = λ waiting jobs hosts all one.
    let left : All (IsUserSkip waiting jobs hosts) c.if-len-ge-MOST_SKIPS.users.items = elim c.if-len-ge-MOST_SKIPS.branch [
      | then-len-ge-MOST_SKIPS w ↦ subst (All (IsUserSkip waiting jobs hosts)) (sym (ap (λ v. v.items) w.users-is)) (subst (All (IsUserSkip waiting jobs hosts)) (sym w.clear.ensures.items) (All-nil _))
      | else-len-ge-MOST_SKIPS w ↦ subst (All (IsUserSkip waiting jobs hosts)) (sym (ap (λ v. v.items) w.users-is)) all
    ] in
    maybe_pushed (IsUserSkip waiting jobs hosts) c.if-len-ge-MOST_SKIPS.users.items c.push.new.self.items c.args.user (is_ok c.push.result) c.push.ensures.items left one
