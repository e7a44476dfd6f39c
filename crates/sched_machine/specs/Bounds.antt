-- Rule. What a sound world has at most: 200,000 workunits of 100 instances, each worth at most 100,000,000 millicredits.
use Rattle.std.specs.Prelude.{ℕ, ◌*◌, ◌^◌, ◌≤◌, sum_by}
use Rattle.rpc_records.specs.declared.request.Request.{Request}
use Rattle.sched_book.specs.Fits.{estimate_at}
use Rattle.sched_book.specs.Places.{host_credit, user_credit}
use Rattle.sched_book.specs.Sound.{Sound}
use Rattle.sched_book.specs.Step.{at_entry, host_at_entry, resent_of}
use Rattle.sched_book.specs.declared.machine.Caller.{Caller}
use Rattle.sched_book.specs.declared.world.World.{World}
use Rattle.sched_machine.specs.Decisions.{results_credit}

-- The credit of all valid results together, and so that of each host and of each user.
pub record IsCreditBounded (w : World) : Type 0 where
  pub results : results_credit w ≤ 2 * 10 ^ 15
  pub host : (number : ℕ) → host_credit w number ≤ 2 * 10 ^ 15
  pub user : (account : ℕ) → user_credit w account ≤ 2 * 10 ^ 15

abbrev pub CreditIsBounded : Type 0
CreditIsBounded = (w : World) → Sound w → IsCreditBounded w

-- the seconds of the jobs that a call sends again: each takes at most its workunit's delay bound
abbrev pub ResentSecondsAreBounded : Type 0
ResentSecondsAreBounded = (w : World) (c : Caller) (r : Request) → Sound w
    → sum_by (estimate_at (at_entry w c r) (host_at_entry w c r)) (resent_of w c r) ≤ 2 * 10 ^ 15
