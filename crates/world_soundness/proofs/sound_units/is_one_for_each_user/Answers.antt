-- If the user of an instance has one before it, some user has two. Otherwise each user still has at most one.
use Rattle.std.proofs.Common.{◌≡◌, ◌<◌, length, take, sym, refl, ◌∙◌, subst, AllPairs, arith}
use Rattle.std.proofs.lemmas.Bool.{false≢true}
use Rattle.std.proofs.lemmas.List.{take_all}
use Rattle.sched_book.specs.Sound.{AreOfOtherUsers}
use Rattle.world_soundness.proofs.InPairs.{pairs_more, pairs_before}
use Rattle.world_soundness.proofs.sound_units.is_one_for_each_user.Goals as goal

pub returns-then-not-are_all_of_other_users : goal.returns-then-not-are_all_of_other_users
returns-then-not-are_all_of_other_users c =
    let xs = c.args.instances.now in
    let i = c.loop-index.index in
    let x = c.index-instances-index.result in
    let within : i < length xs = omega arith in
    let before = pairs_before (AreOfOtherUsers c.args.hosts.now) xs i x within c.index-instances-index.is in
    (λ is. absurd (false≢true is), λ pairs. sym c.if-not-are_all_of_other_users.true ∙ c.are_all_of_other_users.ensures.1 (before pairs))

pub loop-index-preserved : goal.loop-index-preserved
loop-index-preserved c =
    let xs = c.args.instances.now in
    let i = c.loop-index.index in
    let x = c.index-instances-index.result in
    let within : i < length xs = omega arith in
    pairs_more (AreOfOtherUsers c.args.hosts.now) xs i x within c.index-instances-index.is c.loop-index.invariant
    (c.are_all_of_other_users.ensures.0 c.if-not-are_all_of_other_users.false)

pub returns : goal.returns
returns c =
    let xs = c.args.instances.now in
    let all : take c.loop-index.index xs ≡ xs = take_all c.loop-index.index xs (omega arith) in
    (λ is. subst (AllPairs (AreOfOtherUsers c.args.hosts.now)) all c.loop-index.invariant, λ pairs. refl)
