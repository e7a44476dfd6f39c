-- Rule. What a reply says of the jobs that its call sends again and grants: it names each of them.
use Rattle.std.specs.Prelude.{◌≡◌, ℕ, true, false, List, ◌++◌, map, Contains}
use Rattle.rpc_records.specs.declared.reply.Job.{Job}
use Rattle.rpc_records.specs.declared.reply.Reply.{Reply}
use Rattle.rpc_records.specs.declared.request.Request.{Request}
use Rattle.sched_book.specs.Places.{name_at}
use Rattle.sched_book.specs.Sound.{Sound}
use Rattle.sched_book.specs.Step.{RpcStep, deadline_at, host_number, resent_of}
use Rattle.sched_book.specs.declared.instance.Place.{Place}
use Rattle.sched_book.specs.declared.machine.Caller.{Caller}
use Rattle.sched_book.specs.declared.world.World.{World}
use Rattle.sched_machine.specs.Asked.{holds}

-- the places of the jobs that a call sends again, then of those that it is granted
abbrev pub places_given : World → Caller → Request → List Place → List Place
places_given w c r jobs = resent_of w c r ++ jobs

-- The reply has one job for each of these places, in their order: with the name of the instance, with its deadline after
-- the call, and saying whether it is sent again. The host then holds each of these instances.
pub record NamesEachJob (w after : World) (c : Caller) (r : Request) (jobs : List Place) (reply : Reply) : Type 0 where
  pub names : map (λ (j : Job). j.name) reply.results ≡ map (name_at w) (places_given w c r jobs)
  pub deadlines : map (λ (j : Job). j.report_deadline) reply.results ≡ map (deadline_at after) (places_given w c r jobs)
  pub resent : map (λ (j : Job). j.resent) reply.results ≡ map (λ p. true) (resent_of w c r) ++ map (λ p. false) jobs
  pub held : (p : Place) → Contains (places_given w c r jobs) p → holds after (host_number w c) p ≡ true

abbrev pub RepliesNameEachJob : Type 0
RepliesNameEachJob = (w after : World) (c : Caller) (r : Request) (now : ℕ) (reply : Reply) (step : RpcStep w c r now after reply) → Sound w
    → NamesEachJob w after c r step.jobs reply
