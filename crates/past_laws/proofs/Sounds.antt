-- Tables that agree with a past are sound, and so are tables after messages.
use Rattle.std.proofs.Common.{ℕ, List, [], ◌∷◌, subst}
use Rattle.sched_book.specs.Sound.{Sound}
use Rattle.sched_book.specs.Step.{empty_world}
use Rattle.sched_book.specs.declared.machine.Answered.{Answered}
use Rattle.sched_book.specs.declared.machine.Call.{Call}
use Rattle.sched_book.specs.declared.settings.Settings.{Settings}
use Rattle.sched_book.specs.declared.world.World.{World}
use Rattle.pasts.specs.Laws.{calls_of_run, worlds_in, AreInLimits, last_world, IsRunTo}
use Rattle.pasts.specs.Runs.{Turn}
use Rattle.pasts.proofs.OneRun.{is_one_run}
use Rattle.sched_machine.specs.Laws.{AreCallsInLimits, AllSound}
use Rattle.sched_machine.specs.Runs.{AllAfter}
use Rattle.sched_machine.proofs.Moves.Sound.{runs_keep_sound, the_empty_world_is_sound}
use Rattle.past_laws.specs.Laws.{StandsIsSound}

-- ---- limits

pub calls_in_limits : (calls : List (Call × ℕ)) → AreInLimits calls → AreCallsInLimits calls
calls_in_limits [] limits = tt
calls_in_limits (e ∷ es) limits = (limits.0.request, limits.0.moment, calls_in_limits es limits.1)

-- ---- the last world of a run

last_sound : (w : World) (worlds : List (Answered × World)) → Sound w → AllSound worlds → Sound (last_world w worlds)
last_sound w [] sound all = sound
last_sound w (t ∷ ts) sound all = last_sound t.1 ts all.0 all.1

pub last_after : (P : World → Type 0) (w : World) (worlds : List (Answered × World)) → P w → AllAfter P worlds → P (last_world w worlds)
last_after P w [] first all = first
last_after P w (t ∷ ts) first all = last_after P t.1 ts all.0 all.1

pub what_stands_is_sound : StandsIsSound
what_stands_is_sound t stood =
    let s : Settings = t.world.settings in
    let turns : List Turn = stood.stands.0 in
    let run : IsRunTo (empty_world s) (calls_of_run turns) (worlds_in turns) t.world = is_one_run t stood.past turns stood.stands.1 in
    let first : Sound (empty_world s) = the_empty_world_is_sound s stood.settings in
    subst Sound run.last
    (last_sound (empty_world s) (worlds_in turns) first
    (runs_keep_sound (empty_world s) (calls_of_run turns) (worlds_in turns) first (calls_in_limits (calls_of_run turns) run.limits) run.trace))
