-- Rule. How the parts of a step keep a world sound.
use Rattle.std.specs.Prelude.{◌≡◌, All, ℕ, ◌≤◌, List, [], ◌∷◌, fold, Option, Some}
use Rattle.rpc_records.specs.Ranges.{IsInRange, IsReport}
use Rattle.rpc_records.specs.declared.request.Report.{Report}
use Rattle.rpc_records.specs.declared.request.Request.{Request}
use Rattle.sched_book.specs.Calls.{IsCallInLimits}
use Rattle.sched_book.specs.Grant.{Asking, IsGrant}
use Rattle.sched_book.specs.Limits.{last_moment, AreSettingsInLimits}
use Rattle.sched_book.specs.Lost.{lost, resend_or_drop}
use Rattle.sched_book.specs.Places.{host_at}
use Rattle.sched_book.specs.Reports.{recorded}
use Rattle.sched_book.specs.Settle.{settled}
use Rattle.sched_book.specs.Sound.{Sound, IsSettled, IsWell}
use Rattle.sched_book.specs.Step.{IsCaller, HasRoom, at_entry, granted, lapsed, empty_world, ImportStep, Step, Trace}
use Rattle.sched_book.specs.declared.machine.Answered.{Answered}
use Rattle.sched_book.specs.declared.machine.Call.{Call}
use Rattle.sched_book.specs.declared.machine.Caller.{Caller}
use Rattle.sched_book.specs.declared.instance.Place.{Place}
use Rattle.sched_book.specs.declared.rows.HostRow.{HostRow}
use Rattle.sched_book.specs.declared.rows.Rows.{Rows}
use Rattle.sched_book.specs.declared.settings.Settings.{Settings}
use Rattle.sched_book.specs.declared.world.World.{World}

-- the host of a call is renewed, or made if there is room
abbrev pub EntryKeepsSound : Type 0
EntryKeepsSound = (w : World) (c : Caller) (r : Request) → Sound w → IsCaller w c r → HasRoom w c
    → IsInRange r → Sound (at_entry w c r)

-- reports, lapses and lost jobs keep a world well: open workunits may lack instances, and marked ones their class
abbrev pub ReportsKeepWell : Type 0
ReportsKeepWell = (w : World) (host : ℕ) (reports : List Report) → All IsReport reports → IsWell w → IsWell (recorded w host reports)

abbrev pub LapsesKeepWell : Type 0
LapsesKeepWell = (w : World) (now : ℕ) → IsWell w → IsWell (lapsed w now)

abbrev pub LostJobsKeepWell : Type 0
LostJobsKeepWell = (entry w : World) (h : HostRow) (now host : ℕ) (names : Option (List (List ℕ))) → IsWell entry → now ≤ last_moment → IsWell w
    → IsWell (fold (resend_or_drop entry h now) w (lost w host names))

-- settlement gives open workunits the instances that they need
abbrev pub SettlementSettles : Type 0
SettlementSettles = (old changed : World) → old.settings ≡ changed.settings → IsWell changed → IsSettled (settled old changed)

-- a grant to a host that exists keeps the world settled
abbrev pub GrantKeepsSettled : Type 0
GrantKeepsSettled = (w : World) (q : Asking) (jobs : List Place) → IsSettled w → host_at w q.number ≡ Some q.host → q.now ≤ last_moment → IsGrant w q jobs
    → IsSettled (granted w q.number q.now jobs)

abbrev pub ImportKeepsSound : Type 0
ImportKeepsSound = (w after : World) (new : Rows) (count : ℕ) → Sound w → ImportStep w new after count → Sound after

-- each step leaves a sound world sound
abbrev pub StepKeepsSound : Type 0
StepKeepsSound = (w after : World) (c : Call) (now : ℕ) (answer : Answered) → Sound w → IsCallInLimits c → now ≤ last_moment
    → Step w c now after answer → Sound after

-- the calls of a run, with their moments, are within limits
abbrev pub AreCallsInLimits : List (Call × ℕ) → Type 0
AreCallsInLimits [] = Unit {0}
AreCallsInLimits (e ∷ es) = IsCallInLimits e.0 × (e.1 ≤ last_moment) × AreCallsInLimits es

-- each run keeps all its worlds sound
abbrev pub AllSound : List (Answered × World) → Type 0
AllSound [] = Unit {0}
AllSound (t ∷ ts) = Sound t.1 × AllSound ts

abbrev pub RunsKeepSound : Type 0
RunsKeepSound = (w : World) (calls : List (Call × ℕ)) (turns : List (Answered × World)) → Sound w → AreCallsInLimits calls → Trace w calls turns
    → AllSound turns

-- a run may begin with the empty world, which is sound
abbrev pub EmptyIsSound : Type 0
EmptyIsSound = (settings : Settings) → AreSettingsInLimits settings → Sound (empty_world settings)
