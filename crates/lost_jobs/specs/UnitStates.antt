-- Words. What the state of a workunit says of its jobs.
use Rattle.std.specs.Prelude.{ℕ, Bool, not, ◌&&◌, ◌||◌, if◌then◌else◌, List, [], Option, Some, None, option_map, unwrap_or, slice_get}
use Rattle.std.specs.Str.{bytes_eq}
use Rattle.sched_book.specs.Count.{is_open, has_failed, status}
use Rattle.sched_book.specs.Names.{instance_name}
use Rattle.sched_book.specs.Reports.{awaits_report}
use Rattle.sched_book.specs.Places.{option_any, is_held_by, deadline_of}
use Rattle.sched_book.specs.declared.delta.Edit.{Edit}
use Rattle.sched_book.specs.declared.delta.Edit.TheVariants as edit
use Rattle.sched_book.specs.declared.instance.Instance.{Instance}
use Rattle.call_working_set.specs.WorkingSets.{instance_now, status_now}
use Rattle.call_working_set.specs.UnitState.{UnitState}
use Rattle.lost_jobs.specs.Fated.{fated}
use Rattle.lost_jobs.specs.declared.fates.Fate.{Fate}
use Rattle.lost_jobs.specs.declared.fates.OpenJob.{OpenJob}
use Rattle.texts.specs.SeenSet.{has_seen}
use Rattle.texts.specs.declared.seen_set.SeenSet.{SeenSet}

-- the name of an instance; empty if there is no workunit
abbrev pub name_on : Option UnitState → ℕ → List ℕ
name_on None number = []
name_on (Some k) number = instance_name k.unit.name number

-- the host holds the instance now, and its name is not in the set
abbrev pub is_missing_on : ℕ → SeenSet (List ℕ) → Option UnitState → ℕ → Bool
is_missing_on host listed k number = option_any (is_held_by host) (instance_now k number) && not (has_seen bytes_eq listed (name_on k number))

-- a job whose workunit was open before the call
abbrev pub open_job_on : Option UnitState → ℕ → Option OpenJob
open_job_on None number = None
open_job_on (Some k) number =
    if is_open (status k.agreement k.unit k.before)
    then Some (record { unit = k.unit; deadline = unwrap_or (option_map (λ (x : Instance). deadline_of x.owner) (slice_get k.before number)) 0 })
    else None

-- the client of the host may forget the instance of a number: it awaits no report of the host, or its workunit has failed
abbrev pub is_aborted_on : Option UnitState → ℕ → ℕ → Bool
is_aborted_on k host number = not (option_any (awaits_report host) (instance_now k number)) || has_failed (status_now k)

-- what a fate changes of the instance as it is now; nothing if there is no instance
abbrev pub change_on : Option UnitState → Fate → Option Edit
change_on k f = option_map (λ x. edit.Instance f.place (fated f.resent x)) (instance_now k f.place.number)
