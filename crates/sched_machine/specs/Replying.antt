-- Words. What a reply says after new jobs were given.
use Rattle.std.specs.Prelude.{◌≡◌, ℕ, ◌+◌, ◌++◌, true, false, List, filter_map}
use Rattle.rpc_records.specs.declared.reply.EndWord.{EndWord}
use Rattle.rpc_records.specs.declared.reply.Reply.{Reply}
use Rattle.rpc_records.specs.declared.request.Request.{Request}
use Rattle.sched_book.specs.Delta.{EditsFit}
use Rattle.sched_book.specs.Grant.{IsGrant, end_word}
use Rattle.sched_book.specs.Places.{host_credit, user_credit}
use Rattle.sched_book.specs.Step.{after_settlement, asking_of, after_grant, job_at, user_name}
use Rattle.sched_book.specs.declared.delta.Edit.{Edit}
use Rattle.sched_book.specs.declared.instance.Place.{Place}
use Rattle.sched_book.specs.declared.world.World.{World}
use Rattle.quorum_credit.specs.Scores.{credits_in}
use Rattle.sched_machine.specs.Totals.{user_credits_in}
use Rattle.sched_machine.specs.declared.preparing.Ready.{Ready}
use Rattle.sched_machine.specs.declared.reply.Told.{Told}

-- What a reply says of the jobs and the user of a call. The call found the world w; in the world v these jobs are its
-- host's.
pub record AreReplyParts (w v : World) (ready : Ready) (jobs : List Place) (told : Told) : Type 0 where
  pub results : told.results ≡
      filter_map (job_at v ready.call.host true) ready.settled.resent ++ filter_map (job_at v ready.call.host false) jobs
  pub host_credit : told.host_credit ≡ host_credit w ready.call.number + credits_in ready.settled.scores ready.call.number
  pub user_credit : told.user_credit ≡
      user_credit w ready.call.caller.account + user_credits_in v.hosts ready.call.caller.account ready.settled.scores
  pub user_name : told.user_name ≡ user_name w ready.call.caller.account

-- New jobs were chosen and given to the host of a call. The reply says so, and why there are no more.
pub record IsGranted (w : World) (r : Request) (now : ℕ) (ready : Ready) (v : World) (changes : List Edit) (told : Told) (word : EndWord) : Type 0 where
  pub jobs : List Place
  pub grant : IsGrant (after_settlement w ready.call.caller r now) (asking_of w ready.call.caller r now) jobs
  pub ends : word ≡ end_word (after_settlement w ready.call.caller r now) (asking_of w ready.call.caller r now) jobs
  pub left : v ≡ after_grant w ready.call.caller r now jobs
  pub fits : EditsFit w changes
  pub tells : AreReplyParts w v ready jobs told

-- the reply, made of its parts
abbrev pub reply_of : Ready → Told → EndWord → Request → ℕ → Reply
reply_of ready told word r delay = record {
  end_word = word;
  host_total_credit = told.host_credit;
  hostid = ready.call.number;
  request_delay = delay;
  result_abort = ready.aborted;
  result_ack = ready.settled.acked;
  results = told.results;
  rpc_seqno = r.rpc_seqno;
  user_name = told.user_name;
  user_total_credit = told.user_credit;
}
