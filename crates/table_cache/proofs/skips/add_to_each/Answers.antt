use Rattle.std.proofs.Common.{◌≡◌, ◌<◌, true, length, arith, subst}
use Rattle.std.specs.List.{AllWithin}
use Rattle.std.proofs.lemmas.List.Elements.{AllWithin-none, AllWithin-from_all, All-from_all_within}
use Rattle.table_cache.specs.Covering.{IsUserSkip}
use Rattle.table_desk.specs.WaitingWindow.{with_wait_at}
use Rattle.table_cache.proofs.SkipMoves.{one_changed}
use Rattle.table_cache.proofs.skips.add_to_each.Goals as goal

pub loop-user-init : goal.loop-user-init
loop-user-init c = λ waiting jobs hosts all.
    let users = c.args.users.now in (
      AllWithin-none (IsUserSkip (with_wait_at waiting c.args.place.unit c.args.place.number true) jobs hosts) users 0,
      AllWithin-from_all (IsUserSkip waiting jobs hosts) users all,
    )

pub loop-user-preserved : goal.loop-user-preserved
loop-user-preserved c = λ waiting jobs hosts all.
    let so_far = c.loop-user.invariant waiting jobs hosts all in
    let within : c.loop-user.user-index < length c.loop-user.users = omega arith in
    one_changed (IsUserSkip waiting jobs hosts) (IsUserSkip (with_wait_at waiting c.args.place.unit c.args.place.number true) jobs hosts) c.loop-user.users c.loop-user.user-index
    c.user-item.result c.add.new.self within (c.add.ensures waiting jobs hosts) so_far.0 so_far.1

pub returns : goal.returns
returns c = λ waiting jobs hosts all.
    let after = IsUserSkip (with_wait_at waiting c.args.place.unit c.args.place.number true) jobs hosts in
    let whole : c.loop-user.user-index ≡ length c.loop-user.users = omega arith in
    All-from_all_within after c.loop-user.users (subst (AllWithin after c.loop-user.users 0) whole (c.loop-user.invariant waiting jobs hosts all).0)
