-- Rule. For a call's host, reports, lost jobs and settlement change nothing that the call's grant depends on.
use Rattle.std.specs.Prelude.{ℕ}
use Rattle.rpc_records.specs.declared.request.Request.{Request}
use Rattle.sched_book.specs.Sound.{Sound}
use Rattle.sched_book.specs.Step.{IsCaller, HasRoom, after_settlement, asking_of}
use Rattle.sched_book.specs.declared.machine.Caller.{Caller}
use Rattle.sched_book.specs.declared.world.World.{World}
use Rattle.job_choice.specs.Alike.{IsLike}

-- For the host that calls, the settled world is like the world before the call: a grant of one is a grant of the other.
abbrev pub SettledIsLike : Type 0
SettledIsLike = (w : World) (c : Caller) (r : Request) (now : ℕ) → Sound w → IsCaller w c r → HasRoom w c
    → IsLike w (after_settlement w c r now) (asking_of w c r now)
