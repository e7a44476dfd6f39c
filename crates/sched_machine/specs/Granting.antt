-- Words. Jobs that are given to a host, as changes of a world, and what a reply says of them.
use Rattle.std.specs.Prelude.{◌≡◌, ℕ, ◌+◌, Bool, true, false, IsTrue, List, All, Option, None, Some, IsSome, fold, is_some, option_map, unwrap_or, slice_get}
use Rattle.rpc_records.specs.declared.reply.Job.{Job}
use Rattle.sched_book.specs.Names.{instance_name}
use Rattle.sched_book.specs.Fits.{version_at_unit}
use Rattle.sched_book.specs.Delta.{edited, EditFits}
use Rattle.sched_book.specs.Places.{host_at, instance_at, deadline_of}
use Rattle.sched_book.specs.Step.{class_granted, with_owner, job_of}
use Rattle.sched_book.specs.declared.delta.Edit.{Edit}
use Rattle.sched_book.specs.declared.delta.Edit.TheVariants as edit
use Rattle.sched_book.specs.declared.instance.Instance.{Instance}
use Rattle.sched_book.specs.declared.instance.Owner.{Owner}
use Rattle.sched_book.specs.declared.instance.Place.{Place}
use Rattle.sched_book.specs.declared.rows.HostRow.{HostRow}
use Rattle.sched_book.specs.declared.rows.Version.{Version}
use Rattle.sched_book.specs.declared.world.World.{World}
use Rattle.job_choice.specs.declared.granted.Granted.{Granted}
use Rattle.call_working_set.specs.WorkingSets.{instance_now}
use Rattle.call_working_set.specs.UnitState.{UnitState}
use Rattle.quorum_credit.specs.Limited.{FitWithin}
use Rattle.quorum_credit.specs.Settling.{AreUnitsInLimits}
use Rattle.sched_machine.specs.declared.jobs.Sending.{Sending}
use Rattle.sched_machine.specs.declared.jobs.Sending.TheVariants.{First, Again}

-- the owner that a host becomes at a moment; the deadline is a delay later
abbrev pub owner_for : ℕ → ℕ → ℕ → Owner
owner_for host now delay = record { host = host; sent = now; deadline = now + delay }

-- the instance of a number in a unit state, given to a host; none if there is no instance
abbrev pub given_on : Option UnitState → ℕ → ℕ → ℕ → Option Instance
given_on None number host now = None
given_on (Some k) number host now = option_map (with_owner (owner_for host now k.unit.delay_bound)) (slice_get k.present number)

-- The changes fit a world whose workunits are within limits, and leave a world that has the host.
pub record FitWithHost (w : World) (host : ℕ) (changes : List Edit) : Type 0 where
  pub units : AreUnitsInLimits w
  pub within : FitWithin w changes
  pub stands : IsTrue (is_some (host_at (edited w changes) host))

-- a job was lost and is sent again
abbrev pub is_again : Sending → Bool
is_again First = false
is_again Again = true

-- what a reply says of the instance of a number in a unit state, to a host that runs this version
abbrev pub job_on : Option UnitState → ℕ → HostRow → Bool → Option Version → Option Job
job_on None number h resent v = None
job_on (Some k) number h resent v =
    option_map
    (job_of (instance_name k.unit.name number) (unwrap_or (option_map (λ (x : Instance). deadline_of x.owner) (instance_now (Some k) number)) 0) h resent k.unit)
    v

-- the version of each job is the one that the host runs
abbrev pub AreRunBy : World → HostRow → List Granted → Type 0
AreRunBy w h jobs = All (λ (j : Granted). Some j.version ≡ version_at_unit w h j.place.unit) jobs

-- there is an instance at each of these places
abbrev pub AreThere : World → List Place → Type 0
AreThere w places = All (λ (p : Place). IsSome (instance_at w p)) places

-- the workunits of these jobs after the classes of their versions were granted, one after another
abbrev pub with_classes : World → List Granted → World
with_classes w jobs = fold (λ (v : World) (j : Granted). class_granted v j.place.unit j.version.class) w jobs

-- each job's workunit exists, and the class of its version is a word
abbrev pub CanTake : World → List Granted → Type 0
CanTake w jobs = All (λ (j : Granted). EditFits w (edit.Class j.place.unit j.version.class)) jobs
