-- Words. What a call state has of a world, and what a working set may be asked.
use Rattle.std.specs.Prelude.{◌≡◌, ℕ, ◌+◌, ◌<◌, ◌≤◌, ◌==◌, if◌then◌else◌, List, [], ◌∷◌, length, Option, None, Some, option_map, is_some, IsSome, slice_get, Bool}
use Rattle.std.specs.BTreeMap.{BTreeMap, get}
use Rattle.std.specs.List.{list_any}
use Rattle.std.specs.Ordering.{nat_cmp}
use Rattle.sched_book.specs.Classes.{rule_after}
use Rattle.sched_book.specs.Count.{status}
use Rattle.sched_book.specs.Places.{unit_at, host_at, unit_named, agreement_by}
use Rattle.sched_book.specs.Delta.{edited, set_at}
use Rattle.sched_book.specs.Limits.{most_instances}
use Rattle.sched_book.specs.declared.delta.Edit.{Edit}
use Rattle.sched_book.specs.declared.delta.Edit.TheVariants as edit
use Rattle.sched_book.specs.declared.instance.Instance.{Instance}
use Rattle.sched_book.specs.declared.instance.Place.{Place}
use Rattle.sched_book.specs.declared.instance.Status.{Status}
use Rattle.sched_book.specs.declared.instance.Status.TheVariants.{FailedTotal}
use Rattle.sched_book.specs.declared.instance.UnitBook.{UnitBook}
use Rattle.sched_book.specs.declared.rows.HostRow.{HostRow}
use Rattle.sched_book.specs.declared.world.World.{World}
use Rattle.call_working_set.specs.UnitState.{UnitState}
use Rattle.call_working_set.specs.declared.call_state.CallState.{CallState}

-- the workunit of a unit state with its instances and its class rule: before the call, and now
abbrev pub book_before : UnitState → UnitBook
book_before k = record { unit = k.unit; instances = k.before }

abbrev pub book_now : UnitState → UnitBook
book_now k = record { unit = record k.unit { class_rule = k.rule }; instances = k.present }

-- The state of a workunit: the world before the call has the workunit as it was, and the present world has it as it is now.
pub record IsUnitStateOf (entry present : World) (unit : ℕ) (k : UnitState) : Type 0 where
  pub before : unit_at entry unit ≡ Some (book_before k)
  pub here : unit_at present unit ≡ Some (book_now k)
  pub agreement : agreement_by entry.apps k.unit.app ≡ k.agreement

-- a workunit without a unit state was not changed
abbrev pub IsUnitStateAt : World → World → ℕ → Option UnitState → Type 0
IsUnitStateAt entry present unit None = unit_at present unit ≡ unit_at entry unit
IsUnitStateAt entry present unit (Some k) = IsUnitStateOf entry present unit k

-- the result of reading a workunit: its unit state, or that there is no such workunit
abbrev pub IsReadAt : World → World → ℕ → Option UnitState → Type 0
IsReadAt entry present unit None = (unit_at present unit ≡ None) × (unit_at entry unit ≡ None)
IsReadAt entry present unit (Some k) = IsUnitStateOf entry present unit k

-- a host in the call state is as it is now; a host that is not in it was not changed
abbrev pub IsHostAt : World → World → ℕ → Option HostRow → Type 0
IsHostAt entry present number None = host_at present number ≡ host_at entry number
IsHostAt entry present number (Some h) = host_at present number ≡ Some h

-- The state of a call that found this world. Each unit state and each host is that of the world with the call state's edits made.
pub record IsCallStateOf (entry : World) (p : CallState) : Type 0 where
  pub settings : p.settings ≡ entry.settings
  pub unit_states : (unit : ℕ) → IsUnitStateAt entry (edited entry p.edits) unit (get nat_cmp p.unit_states unit)
  pub hosts : (number : ℕ) → IsHostAt entry (edited entry p.edits) number (get nat_cmp p.hosts number)
  pub rest : edited entry p.edits ≡ record entry { units = (edited entry p.edits).units; hosts = (edited entry p.edits).hosts }
  pub names : (name : List ℕ) → unit_named (edited entry p.edits) name ≡ unit_named entry name

-- the number of a host, or the next number
abbrev pub HasPlace : World → ℕ → Type 0
HasPlace w number = (1 ≤ number) × (number ≤ length w.hosts + 1)

-- an edit of a host or of a workunit that exists, with at most as many instances as a workunit may have
abbrev pub IsOfKnown : World → Edit → Type 0
IsOfKnown w (edit.Host number h) = IsSome (host_at w number)
IsOfKnown w (edit.Instance p x) = IsSome (unit_at w p.unit) × (p.number < most_instances)
IsOfKnown w (edit.Class unit class) = IsSome (unit_at w unit)

-- a unit state with an instance put at a number
abbrev pub with_put : Place → Instance → UnitState → UnitState
with_put p x k = record k { present = set_at k.present p.number x }

-- these unit states are those with an instance put in the state of its workunit
abbrev pub ArePut : BTreeMap ℕ UnitState → BTreeMap ℕ UnitState → Place → Instance → Type 0
ArePut old new p x = IsSome (get nat_cmp old p.unit)
    × ((unit : ℕ) → get nat_cmp new unit ≡ if p.unit == unit then option_map (with_put p x) (get nat_cmp old unit) else get nat_cmp old unit)

-- a unit state after a version of a class was granted for its workunit
abbrev pub with_granted : List ℕ → UnitState → UnitState
with_granted class k = record k { rule = rule_after k.rule class }

-- these unit states are those with a class granted in the state of a workunit
abbrev pub AreClassed : BTreeMap ℕ UnitState → BTreeMap ℕ UnitState → ℕ → List ℕ → Type 0
AreClassed old new place class = IsSome (get nat_cmp old place)
    × ((unit : ℕ) → get nat_cmp new unit ≡ if place == unit then option_map (with_granted class) (get nat_cmp old unit) else get nat_cmp old unit)

-- the number is in the list
abbrev pub is_among : List ℕ → ℕ → Bool
is_among numbers number = list_any (λ n. n == number) numbers

-- all of these are greater than m
abbrev pub AreAbove : ℕ → List ℕ → Type 0
AreAbove m [] = Unit {0}
AreAbove m (n ∷ ns) = (m < n) × AreAbove m ns

-- each number is less than all after it
abbrev pub AreRising : List ℕ → Type 0
AreRising [] = Unit {0}
AreRising (n ∷ ns) = AreAbove n ns × AreRising ns

-- the places of all unit states, each once and in order
pub record AreAllOf (kept : ℕ → Option UnitState) (units : List ℕ) : Type 0 where
  pub rising : AreRising units
  pub all : (unit : ℕ) → is_some (kept unit) ≡ list_any (λ n. n == unit) units

-- what a unit state says of its workunit; without a unit state there is no workunit, and it counts as failed
abbrev pub instances_now : Option UnitState → List Instance
instances_now None = []
instances_now (Some k) = k.present

abbrev pub instance_before : Option UnitState → ℕ → Option Instance
instance_before None number = None
instance_before (Some k) number = slice_get k.before number

abbrev pub instance_now : Option UnitState → ℕ → Option Instance
instance_now None number = None
instance_now (Some k) number = slice_get k.present number

abbrev pub status_before : Option UnitState → Status
status_before None = FailedTotal
status_before (Some k) = status k.agreement k.unit k.before

abbrev pub status_now : Option UnitState → Status
status_now None = FailedTotal
status_now (Some k) = status k.agreement k.unit k.present

-- a place, if there was an instance before the call
abbrev pub existing_on : Option UnitState → Place → Option Place
existing_on k p = option_map (λ x. p) (instance_before k p.number)
