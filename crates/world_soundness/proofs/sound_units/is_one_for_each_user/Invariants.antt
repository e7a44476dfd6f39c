use Rattle.std.proofs.Common.{take, AllPairs}
use Rattle.sched_book.specs.Sound.{AreOfOtherUsers}
use Rattle.world_soundness.proofs.sound_units.is_one_for_each_user.Given as goal

-- no two instances so far were given to hosts of one user
abbrev pub invariant-loop-index : goal.invariant-loop-index
invariant-loop-index l = AllPairs (AreOfOtherUsers l.hosts) (take l.index l.instances)
