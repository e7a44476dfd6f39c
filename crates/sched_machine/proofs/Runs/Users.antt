-- Each world of a run is sound, so in none of them a user was given two instances of a workunit.
use Rattle.std.proofs.Common.{List, [], ◌∷◌}
use Rattle.sched_book.specs.Sound.{Sound}
use Rattle.sched_book.specs.declared.machine.Answered.{Answered}
use Rattle.sched_book.specs.declared.world.World.{World}
use Rattle.sched_machine.specs.Laws.{AllSound}
use Rattle.sched_machine.specs.Runs.{AllAfter, HoldsAlways, OneForEachUser}
use Rattle.sched_machine.proofs.Moves.Sound.{runs_keep_sound}

-- what follows from soundness holds in each world of a run
pub always : (P : World → Type 0) → ((w : World) → Sound w → P w) → HoldsAlways P
always P also w calls turns sound limits trace = (also w sound, all turns (runs_keep_sound w calls turns sound limits trace))
  where
    all : (turns : List (Answered × World)) → AllSound turns → AllAfter P turns
    all [] sound = tt
    all (t ∷ ts) sound = (also t.1 sound.0, all ts sound.1)

pub one_for_each_user : HoldsAlways OneForEachUser
one_for_each_user = always OneForEachUser (λ w sound k d within. (sound.units k d within).well.one_for_each_user)
