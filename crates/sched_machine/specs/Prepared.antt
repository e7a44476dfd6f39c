-- Words. The result of a call before new jobs are chosen.
use Rattle.std.specs.Prelude.{◌≡◌, ℕ, List, length, map, sum_by, unwrap_or}
use Rattle.rpc_records.specs.declared.request.Report.{Report}
use Rattle.rpc_records.specs.declared.request.Request.{Request}
use Rattle.sched_book.specs.Delta.{EditsFit}
use Rattle.sched_book.specs.Fits.{estimate_at}
use Rattle.sched_book.specs.Grant.{Asking}
use Rattle.sched_book.specs.Lost.{aborts}
use Rattle.sched_book.specs.Places.{host_at, held_by}
use Rattle.sched_book.specs.Reports.{first_reports}
use Rattle.sched_book.specs.Step.{after_settlement, resent_of}
use Rattle.sched_book.specs.declared.delta.Edit.{Edit}
use Rattle.sched_book.specs.declared.world.World.{World}
use Rattle.quorum_credit.specs.Settling.{AreScores}
use Rattle.sched_machine.specs.Calling.{IsCalling}
use Rattle.sched_machine.specs.declared.caller.Calling.{Calling}
use Rattle.sched_machine.specs.declared.preparing.Ready.{Ready}
use Rattle.sched_machine.specs.declared.settlement.SettledCall.{SettledCall}

-- The reports of a call were taken, its lost jobs were sent again or dropped, and all this was settled. The changes fit
-- and leave the world v.
pub record IsSettledCall (w : World) (r : Request) (k : Calling) (now : ℕ) (done : SettledCall) (v : World) (changes : List Edit) : Type 0 where
  pub left : v ≡ after_settlement w k.caller r now
  pub fits : EditsFit w changes
  pub acked : done.acked ≡ map (λ (x : Report). x.name) (first_reports r.results)
  pub resent : done.resent ≡ resent_of w k.caller r
  pub scores : AreScores w v done.scores

-- A settled call, with the names that its client may forget, and what its host asks for.
pub record IsReady (w : World) (r : Request) (now : ℕ) (ready : Ready) (v : World) (changes : List Edit) : Type 0 where
  pub calling : IsCalling w r ready.call
  pub settled : IsSettledCall w r ready.call now ready.settled v changes
  pub aborted : ready.aborted ≡ aborts v ready.call.number r.other_results
  pub row : ready.wish.row ≡ unwrap_or (host_at v ready.call.number) ready.call.host
  pub held : ready.wish.held ≡ length (held_by v ready.call.number)
  pub before : ready.wish.before ≡ sum_by (estimate_at v ready.call.host) ready.settled.resent

-- what is asked of the choice of new jobs
abbrev pub asking_by : Ready → Request → ℕ → Asking
asking_by ready r now = record {
  number = ready.call.number;
  host = ready.wish.row;
  before = ready.wish.before;
  held = ready.wish.held;
  asked = r.asked;
  now = now;
}
