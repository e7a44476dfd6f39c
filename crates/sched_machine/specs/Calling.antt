-- Words. A call that the machine acts on.
use Rattle.std.specs.Prelude.{◌≡◌, ◌≤◌, List, length, None}
use Rattle.rpc_records.specs.Ranges.{IsInRange}
use Rattle.rpc_records.specs.declared.request.Request.{Request}
use Rattle.sched_book.specs.Delta.{EditsFit}
use Rattle.sched_book.specs.Imports.{AreChecked}
use Rattle.sched_book.specs.Sound.{Sound}
use Rattle.sched_book.specs.Step.{IsCaller, HasRoom, host_number, at_entry, host_at_entry}
use Rattle.sched_book.specs.declared.delta.Edit.{Edit}
use Rattle.sched_book.specs.declared.machine.Call.{Call}
use Rattle.sched_book.specs.declared.machine.Call.TheVariants as call
use Rattle.sched_book.specs.declared.machine.Caller.{Caller}
use Rattle.sched_book.specs.declared.world.World.{World}
use Rattle.sched_machine.specs.declared.caller.Calling.{Calling}

-- the caller is the one that the request names, and the values of the request are in range
pub record IsAdmitted (w : World) (c : Caller) (r : Request) : Type 0 where
  pub caller : IsCaller w c r
  pub limits : IsInRange r

-- What the machine may hear: an admitted call, rows that were checked, or that time passes.
abbrev pub MayBeHeard : World → Call → Type 0
MayBeHeard w (call.Rpc c r) = IsAdmitted w c r
MayBeHeard w (call.Import new) = AreChecked w new
MayBeHeard w call.Tick = Unit {0}

-- the host is new, and there may be no more hosts
abbrev pub LacksRoom : World → Caller → Type 0
LacksRoom w c = (c.host ≡ None) × (w.settings.max_hosts ≤ length w.hosts)

-- An admitted call with room in a sound world, and its host: the number, and the row as the call gives it.
pub record IsCalling (w : World) (r : Request) (k : Calling) : Type 0 where
  pub sound : Sound w
  pub admitted : IsAdmitted w k.caller r
  pub room : HasRoom w k.caller
  pub number : k.number ≡ host_number w k.caller
  pub host : k.host ≡ host_at_entry w k.caller r

-- The row of its host was put: the world is the one at entry, and what was put fits.
pub record IsEntered (w : World) (r : Request) (k : Calling) (v : World) (changes : List Edit) : Type 0 where
  pub calling : IsCalling w r k
  pub left : v ≡ at_entry w k.caller r
  pub fits : EditsFit w changes

-- a call has no room for its host
abbrev pub IsFull : World → Call → Type 0
IsFull w (call.Rpc c r) = LacksRoom w c
IsFull w (call.Import new) = ⊥
IsFull w call.Tick = ⊥
