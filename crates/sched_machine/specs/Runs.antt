-- Rule. What holds in each run of the machine from a sound world: of the rows at a place, and of what a step leaves.
use Rattle.std.specs.Prelude.{◌≡◌, ◌⊎◌, ℕ, zero, suc, ◌<◌, ◌≤◌, List, [], ◌∷◌, length, All, AllPairs, Contains, Option, Some, option_and_then}
use Rattle.sched_book.specs.Places.{instance_at}
use Rattle.sched_book.specs.Sound.{AreOfOtherUsers, Sound}
use Rattle.sched_book.specs.Step.{Step, Trace, deadline_at, host_number, resent_of}
use Rattle.sched_book.specs.declared.instance.Instance.{Instance}
use Rattle.sched_book.specs.declared.instance.Lapse.{Lapse}
use Rattle.sched_book.specs.declared.instance.Outcome.{Outcome}
use Rattle.sched_book.specs.declared.instance.Owner.{Owner}
use Rattle.sched_book.specs.declared.instance.Place.{Place}
use Rattle.sched_book.specs.declared.instance.UnitBook.{UnitBook}
use Rattle.sched_book.specs.declared.machine.Answered.{Answered}
use Rattle.sched_book.specs.declared.machine.Call.{Call}
use Rattle.sched_book.specs.declared.machine.Call.TheVariants as call
use Rattle.sched_book.specs.declared.world.World.{World}
use Rattle.sched_machine.specs.Laws.{AreCallsInLimits}

-- a property holds of each world of these turns
abbrev pub AllAfter : (World → Type 0) → List (Answered × World) → Type 0
AllAfter P [] = Unit {0}
AllAfter P (t ∷ ts) = P t.1 × AllAfter P ts

-- the world of a run after n of its turns: the first world after none, the last one after all
abbrev pub world_after : World → List (Answered × World) → ℕ → World
world_after w turns zero = w
world_after w [] (suc n) = w
world_after w (t ∷ ts) (suc n) = world_after t.1 ts n

-- R holds between any two worlds of each run from a sound world, the earlier one first
abbrev pub HoldsInRuns : (World → World → Type 0) → Type 0
HoldsInRuns R = (w : World) (calls : List (Call × ℕ)) (turns : List (Answered × World)) → Sound w → AreCallsInLimits calls → Trace w calls turns
    → (i j : ℕ) → i < j → j ≤ length turns → R (world_after w turns i) (world_after w turns j)

-- the owner, the report and the lapse of the instance at a place, if it exists
abbrev pub owner_at : World → Place → Option Owner
owner_at w p = option_and_then (λ (x : Instance). x.owner) (instance_at w p)

abbrev pub report_at : World → Place → Option Outcome
report_at w p = option_and_then (λ (x : Instance). x.report) (instance_at w p)

abbrev pub lapse_at : World → Place → Option Lapse
lapse_at w p = option_and_then (λ (x : Instance). x.lapse) (instance_at w p)

-- an instance that was given to a host stays with that host, with its moment of sending
abbrev pub OwnersStay : World → World → Type 0
OwnersStay old new = (p : Place) (o : Owner) → owner_at old p ≡ Some o
    → (n : Owner) × (owner_at new p ≡ Some n) × (n.host ≡ o.host) × (n.sent ≡ o.sent)

-- what was reported of an instance stays
abbrev pub ReportsStay : World → World → Type 0
ReportsStay old new = (p : Place) (t : Outcome) → report_at old p ≡ Some t → report_at new p ≡ Some t

-- an instance that lapsed keeps its lapse
abbrev pub LapsesStay : World → World → Type 0
LapsesStay old new = (p : Place) (l : Lapse) → lapse_at old p ≡ Some l → lapse_at new p ≡ Some l

-- a call at a moment leaves one world and gives one answer
abbrev pub StepIsDetermined : Type 0
StepIsDetermined = (w v u : World) (c : Call) (now : ℕ) (a b : Answered) → Step w c now v a → Step w c now u b → (v ≡ u) × (a ≡ b)

-- so a list of calls has one run
abbrev pub RunIsDetermined : Type 0
RunIsDetermined = (w : World) (calls : List (Call × ℕ)) (turns others : List (Answered × World)) → Trace w calls turns → Trace w calls others
    → turns ≡ others

-- no workunit has two instances that were given to hosts of one user
abbrev pub OneForEachUser : World → Type 0
OneForEachUser w = All (λ (b : UnitBook). AllPairs (AreOfOtherUsers w.hosts) b.instances) w.units

-- a property holds of each world of each run from a sound world, including the first
abbrev pub HoldsAlways : (World → Type 0) → Type 0
HoldsAlways P = (w : World) (calls : List (Call × ℕ)) (turns : List (Answered × World)) → Sound w → AreCallsInLimits calls → Trace w calls turns
    → P w × AllAfter P turns

-- the call sends the instance at a place again to its owner, the host that calls
abbrev pub IsSentAgain : World → Call → Place → Owner → Type 0
IsSentAgain w (call.Rpc c r) p o = (o.host ≡ host_number w c) × Contains (resent_of w c r) p
IsSentAgain w (call.Import new) p o = ⊥
IsSentAgain w call.Tick p o = ⊥

-- a step keeps the deadline of an instance that was given to a host, or sends it again
abbrev pub DeadlinesMoveByResends : Type 0
DeadlinesMoveByResends = (w after : World) (c : Call) (now : ℕ) (answer : Answered) → Step w c now after answer → (p : Place) (o : Owner)
    → owner_at w p ≡ Some o → (deadline_at after p ≡ deadline_at w p) ⊎ IsSentAgain w c p o
