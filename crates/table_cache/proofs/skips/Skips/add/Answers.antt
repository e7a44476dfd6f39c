use Rattle.std.proofs.Common.{◌≡◌, true, length, sym, subst, ◌∙◌}
use Rattle.std.specs.Prelude.{All}
use Rattle.std.proofs.lemmas.List.{with_items_is}
use Rattle.table_cache.specs.Covering.{IsUserSkip}
use Rattle.table_desk.specs.WaitingWindow.{with_wait_at}
use Rattle.table_cache.proofs.skips.Skips.add.Goals as goal

pub returns : goal.returns
returns c = λ waiting jobs hosts are.
    let users = c.args.self.now.users in
    let then = c.add_to_each.new.users in
    let few : length then ≡ users.len = c.add_to_each.auto.users ∙ c.as_mut_slice.ensures.len in
    record {
      users = subst (All (IsUserSkip (with_wait_at waiting c.args.place.unit c.args.place.number true) jobs hosts)) (sym (with_items_is users then few))
          (c.add_to_each.ensures waiting jobs hosts (subst (All (IsUserSkip waiting jobs hosts)) (sym c.as_mut_slice.ensures.value) are.users));
      nowhere = are.nowhere;
    }
