-- Rule. What a host holds after its call: what it held, did not report and its client lists, and what the reply names.
use Rattle.std.specs.Prelude.{◌≡◌, ◌⊎◌, ℕ, true, List, Contains, Some, is_some}
use Rattle.rpc_records.specs.declared.reply.Job.{Job}
use Rattle.rpc_records.specs.declared.reply.Reply.{Reply}
use Rattle.rpc_records.specs.declared.request.Report.{Report}
use Rattle.rpc_records.specs.declared.request.Request.{Request}
use Rattle.sched_book.specs.Lost.{is_listed}
use Rattle.sched_book.specs.Places.{instance_at, name_at, place_named}
use Rattle.sched_book.specs.Sound.{Sound}
use Rattle.sched_book.specs.Step.{RpcStep, after_reports, host_number, resent_of}
use Rattle.sched_book.specs.declared.instance.Place.{Place}
use Rattle.sched_book.specs.declared.machine.Caller.{Caller}
use Rattle.sched_book.specs.declared.world.World.{World}
use Rattle.sched_machine.specs.Asked.{holds}

-- a report of the call names the instance at a place
abbrev pub IsReported : World → Request → Place → Type 0
IsReported w r p = (t : Report) × Contains r.results t × (place_named w t.name ≡ Some p)

-- The call's host held the instance, and the call does not report it.
pub record IsUnreported (w : World) (c : Caller) (r : Request) (p : Place) : Type 0 where
  pub held : holds w (host_number w c) p ≡ true
  pub unreported : IsReported w r p → ⊥

-- after the reports of a call its host holds exactly what it held and did not report
abbrev pub ReportsEndHolding : Type 0
ReportsEndHolding = (w : World) (c : Caller) (r : Request) (p : Place)
    → (holds (after_reports w c r) (host_number w c) p ≡ true → IsUnreported w c r p)
    × (IsUnreported w c r p → holds (after_reports w c r) (host_number w c) p ≡ true)

-- The call's host held the instance, the call does not report it, and its client lists it.
pub record IsRetained (w : World) (c : Caller) (r : Request) (names : List (List ℕ)) (p : Place) : Type 0 where
  pub kept : IsUnreported w c r p
  pub listed : is_listed w names p ≡ true

-- After a call that lists these names and is granted these jobs, its host holds the instance at a place if and only if the
-- instance is retained, sent again, or granted.
pub record IsHeldByPlace (w after : World) (c : Caller) (r : Request) (names : List (List ℕ)) (jobs : List Place) (p : Place) : Type 0 where
  pub from : holds after (host_number w c) p ≡ true → IsRetained w c r names p ⊎ (Contains (resent_of w c r) p ⊎ Contains jobs p)
  pub retained : IsRetained w c r names p → holds after (host_number w c) p ≡ true
  pub resent : Contains (resent_of w c r) p → holds after (host_number w c) p ≡ true
  pub granted : Contains jobs p → holds after (host_number w c) p ≡ true

abbrev pub HeldByPlaces : Type 0
HeldByPlaces = (w after : World) (c : Caller) (r : Request) (now : ℕ) (reply : Reply) (names : List (List ℕ))
    (step : RpcStep w c r now after reply) → Sound w → w.settings.resend_lost_results ≡ true → r.other_results ≡ Some names
    → (p : Place) → IsHeldByPlace w after c r names step.jobs p

-- a job of the reply has the name of the instance at a place
abbrev pub IsNamed : World → Reply → Place → Type 0
IsNamed w reply p = (j : Job) × Contains reply.results j × (j.name ≡ name_at w p)

-- After a call that lists these names and gets this reply, its host holds exactly what is retained and what the reply
-- names. All these instances existed before the call. Each job of the reply is one of them.
pub record IsHeldByName (w after : World) (c : Caller) (r : Request) (names : List (List ℕ)) (reply : Reply) : Type 0 where
  pub from : (p : Place) → holds after (host_number w c) p ≡ true → IsRetained w c r names p ⊎ IsNamed w reply p
  pub stood : (p : Place) → holds after (host_number w c) p ≡ true → is_some (instance_at w p) ≡ true
  pub retained : (p : Place) → IsRetained w c r names p → holds after (host_number w c) p ≡ true
  pub named : (p : Place) → is_some (instance_at w p) ≡ true → IsNamed w reply p → holds after (host_number w c) p ≡ true
  pub jobs : (j : Job) → Contains reply.results j → (p : Place) × (name_at w p ≡ j.name) × (holds after (host_number w c) p ≡ true)

abbrev pub HoldsWhatIsListedOrNamed : Type 0
HoldsWhatIsListedOrNamed = (w after : World) (c : Caller) (r : Request) (now : ℕ) (reply : Reply) (names : List (List ℕ))
    → RpcStep w c r now after reply → Sound w → w.settings.resend_lost_results ≡ true → r.other_results ≡ Some names
    → IsHeldByName w after c r names reply
