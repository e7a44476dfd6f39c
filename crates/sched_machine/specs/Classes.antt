-- Rule. What holds of the classes of workunits in every run: a class stays, only a grant brings one, and every owner got its
-- instance with a version of it.
use Rattle.std.specs.Prelude.{◌≡◌, ◌⊎◌, ℕ, ◌<◌, ◌≤◌, true, false, List, length, map, Option, Some, None, option_map, slice_get}
use Rattle.rpc_records.specs.declared.request.Request.{Request}
use Rattle.sched_book.specs.Classes.{imported, is_of_first, rule_after}
use Rattle.sched_book.specs.Fits.{version_at_unit}
use Rattle.sched_book.specs.Grant.{has_unit}
use Rattle.sched_book.specs.Places.{unit_at}
use Rattle.sched_book.specs.Sound.{Sound}
use Rattle.sched_book.specs.Step.{Step, Trace, classed, host_number, host_at_entry}
use Rattle.sched_book.specs.declared.instance.Owner.{Owner}
use Rattle.sched_book.specs.declared.instance.Place.{Place}
use Rattle.sched_book.specs.declared.instance.UnitBook.{UnitBook}
use Rattle.sched_book.specs.declared.machine.Answered.{Answered}
use Rattle.sched_book.specs.declared.machine.Call.{Call}
use Rattle.sched_book.specs.declared.machine.Call.TheVariants as call
use Rattle.sched_book.specs.declared.machine.Caller.{Caller}
use Rattle.sched_book.specs.declared.rows.ClassRule.{ClassRule}
use Rattle.sched_book.specs.declared.rows.ClassRule.TheVariants.{Any, OfFirst, Only}
use Rattle.sched_book.specs.declared.rows.HostRow.{HostRow}
use Rattle.sched_book.specs.declared.rows.Version.{Version}
use Rattle.sched_book.specs.declared.world.World.{World}
use Rattle.sched_machine.specs.Laws.{AreCallsInLimits}
use Rattle.sched_machine.specs.Runs.{owner_at, world_after}

-- which versions may do the workunit at a place, if it exists
abbrev pub rule_at : World → ℕ → Option ClassRule
rule_at w unit = option_map (λ (b : UnitBook). b.unit.class_rule) (unit_at w unit)

-- each workunit's rule stays, unless its class is still to be taken: so a class stays, and no workunit becomes marked
abbrev pub ClassesStay : World → World → Type 0
ClassesStay old new = (unit : ℕ) (rule : ClassRule) → is_of_first rule ≡ false → rule_at old unit ≡ Some rule → rule_at new unit ≡ Some rule

-- a workunit with its row as it was imported
abbrev pub as_imported : UnitBook → UnitBook
as_imported b = record b { unit = imported b.unit }

-- Everything stays, except the classes of workunits.
pub record ChangesClassesAlone (old new : World) : Type 0 where
  pub rest : new ≡ record old { units = new.units }
  pub units : map as_imported new.units ≡ map as_imported old.units

-- What a grant of these jobs to a host leaves of the classes. The version is the one that the host runs in the world that
-- the call found. A workunit that is marked and has no class takes the version's; any other keeps its rule (`rule_after`).
pub record HasTakenClasses (entry : World) (h : HostRow) (w : World) (jobs : List Place) (after : World) : Type 0 where
  pub job : (unit : ℕ) (v : Version) → has_unit unit jobs ≡ true → version_at_unit entry h unit ≡ Some v
      → rule_at after unit ≡ option_map (λ rule. rule_after rule v.class) (rule_at w unit)
  pub no_version : (unit : ℕ) → version_at_unit entry h unit ≡ None → rule_at after unit ≡ rule_at w unit
  pub other : (unit : ℕ) → has_unit unit jobs ≡ false → rule_at after unit ≡ rule_at w unit
  pub rest : ChangesClassesAlone w after

abbrev pub ClassesAreByPlace : Type 0
ClassesAreByPlace = (entry : World) (h : HostRow) (w : World) (jobs : List Place) → HasTakenClasses entry h w jobs (classed entry h w jobs)

-- a workunit of this rule keeps to the version's class, or to no class at all
abbrev pub Follows : ClassRule → Version → Type 0
Follows Any v = Unit {0}
Follows OfFirst v = ⊥
Follows (Only class) v = class ≡ v.class

-- In the world w and at a moment, the call gives the instance at a place to its owner, the host that calls, with the
-- version that this host runs. In a later world the workunit keeps to that version's class, or to no class at all.
pub record IsGivenBy (w later : World) (c : Caller) (r : Request) (now : ℕ) (p : Place) (o : Owner) : Type 0 where
  pub host : o.host ≡ host_number w c
  pub sent : o.sent ≡ now
  pub version : Version
  pub runs : version_at_unit w (host_at_entry w c r) p.unit ≡ Some version
  pub book : UnitBook
  pub stands : unit_at later p.unit ≡ Some book
  pub follows : Follows book.unit.class_rule version

abbrev pub IsGiven : World → World → Call → ℕ → Place → Owner → Type 0
IsGiven w later (call.Rpc c r) now p o = IsGivenBy w later c r now p o
IsGiven w later (call.Import new) now p o = ⊥
IsGiven w later call.Tick now p o = ⊥

-- the instance at a place already belonged to that host, from the same moment on
abbrev pub HadOwner : World → Place → Owner → Type 0
HadOwner w p o = (m : Owner) × (owner_at w p ≡ Some m) × (m.host ≡ o.host) × (m.sent ≡ o.sent)

-- the owner of an instance after a step owned it before, or the step gives it to the owner
abbrev pub OwnersAreOfClasses : Type 0
OwnersAreOfClasses = (w after : World) (c : Call) (now : ℕ) (answer : Answered) → Sound w → Step w c now after answer → (p : Place) (o : Owner)
    → owner_at after p ≡ Some o → HadOwner w p o ⊎ IsGiven w after c now p o

-- the call after the first n turns of a run gives the instance; the workunit's rule is the one in a later world
abbrev pub IsGivenAfter : World → List (Call × ℕ) → List (Answered × World) → ℕ → World → Place → Owner → Type 0
IsGivenAfter w calls turns n later p o = (e : Call × ℕ) × (slice_get calls n ≡ Some e) × IsGiven (world_after w turns n) later e.0 e.1 p o

-- the owner of an instance in a world of a run owned it at the beginning, or an earlier call gave it to the owner
abbrev pub OwnersAreOfClassesInRuns : Type 0
OwnersAreOfClassesInRuns = (w : World) (calls : List (Call × ℕ)) (turns : List (Answered × World)) → Sound w → AreCallsInLimits calls → Trace w calls turns
    → (j : ℕ) → j ≤ length turns → (p : Place) (o : Owner) → owner_at (world_after w turns j) p ≡ Some o
    → HadOwner w p o ⊎ ((n : ℕ) × (n < j) × IsGivenAfter w calls turns n (world_after w turns j) p o)
