-- A unit state says the same of lost jobs as the worlds before the call and now.
use Rattle.std.proofs.Common.{◌≡◌, ℕ, ◌<◌, Bool, true, false, cond, List, [], Option, Some, None, sym, refl, ap, ap₂, ◌∙◌, subst, IfSome}
use Rattle.std.specs.Prelude.{◌&&◌, ◌||◌, not, IsSome, option_map, option_and_then, unwrap_or}
use Rattle.std.specs.Str.{bytes_eq}
use Rattle.sched_book.specs.Count.{is_open, has_failed}
use Rattle.sched_book.specs.Fits.{version_for, unit_fits, fits, estimate}
use Rattle.sched_book.specs.Limits.{most_instances}
use Rattle.sched_book.specs.Lost.{deadline_after, is_aborted}
use Rattle.sched_book.specs.Names.{instance_name}
use Rattle.sched_book.specs.Places.{option_any, unit_at, status_at, is_held_by, name_at, deadline_of, place_named}
use Rattle.sched_book.specs.Reports.{awaits_report}
use Rattle.sched_book.specs.Step.{deadline_at}
use Rattle.sched_book.specs.declared.delta.Edit.{Edit}
use Rattle.sched_book.specs.declared.delta.Edit.TheVariants as edit
use Rattle.sched_book.specs.declared.instance.Instance.{Instance}
use Rattle.sched_book.specs.declared.instance.Place.{Place}
use Rattle.sched_book.specs.declared.instance.Status.{Status}
use Rattle.sched_book.specs.declared.instance.UnitBook.{UnitBook}
use Rattle.sched_book.specs.declared.rows.HostRow.{HostRow}
use Rattle.sched_book.specs.declared.rows.Workunit.{Workunit}
use Rattle.sched_book.specs.declared.world.World.{World}
use Rattle.sched_book.proofs.Recording.{passes-is}
use Rattle.call_working_set.specs.WorkingSets.{IsOfKnown, IsReadAt, instance_now}
use Rattle.call_working_set.specs.UnitState.{UnitState}
use Rattle.call_working_set.proofs.OnUnitStates.{instance_before-is, instance_now-is, status_before-is, status_now-is}
use Rattle.texts.specs.SeenSet.{has_seen}
use Rattle.texts.specs.declared.seen_set.SeenSet.{SeenSet}
use Rattle.lost_jobs.specs.Fated.{fated, fate_change}
use Rattle.lost_jobs.specs.Fates.{resent_to}
use Rattle.lost_jobs.specs.Holding.{is_missing}
use Rattle.lost_jobs.specs.UnitStates.{name_on, is_missing_on, open_job_on, is_aborted_on, change_on}
use Rattle.lost_jobs.specs.declared.fates.Fate.{Fate}
use Rattle.lost_jobs.specs.declared.fates.OpenJob.{OpenJob}
use Rattle.lost_jobs.proofs.Standing.{aborted-is}

abbrev named_by : ℕ → Option UnitBook → List ℕ
named_by number o = unwrap_or (option_map (λ (b : UnitBook). instance_name b.unit.name number) o) []

name_on-is : (entry present : World) (p : Place) (o : Option UnitState) → IsReadAt entry present p.unit o → name_on o p.number ≡ name_at present p
name_on-is entry present p None read = sym (ap (named_by p.number) read.0)
name_on-is entry present p (Some k) read = sym (ap (named_by p.number) read.here)

-- what the host holds and its client does not list
pub missing-is : (host : ℕ) (listed : SeenSet (List ℕ)) (entry present : World) (p : Place) (o : Option UnitState) → IsReadAt entry present p.unit o
    → is_missing_on host listed o p.number ≡ is_missing present host listed p
missing-is host listed entry present p o read =
    ap₂ (λ (held : Bool) (name : List ℕ). held && not (has_seen bytes_eq listed name))
    (ap (λ (x : Option Instance). unwrap_or (option_map (is_held_by host) x) false) (instance_now-is entry present p o read)
    ∙ sym (passes-is present (is_held_by host) p))
    (name_on-is entry present p o read)

pub ruleset missing_steps = (missing-is)

-- what a fate changes
pub change-is : (entry present : World) (f : Fate) (o : Option UnitState) → IsReadAt entry present f.place.unit o → change_on o f ≡ fate_change present f
change-is entry present f o read =
    ap (option_map (λ x. edit.Instance f.place (fated f.resent x))) (instance_now-is entry present f.place o read)

pub ruleset change_steps = (change-is)

-- it is of a workunit that exists
pub change_known : (entry present : World) (f : Fate) (o : Option UnitState) (change : Option Edit) → IsReadAt entry present f.place.unit o → change ≡ change_on o f
    → IfSome change (λ e. f.place.number < most_instances) → IfSome (fate_change present f) (IsOfKnown present)
change_known entry present f o change read is few =
    subst (λ c. IfSome c (IsOfKnown present)) (change-is entry present f o read)
    (known o read (subst (λ c. IfSome c (λ e. f.place.number < most_instances)) is few))
  where
    at : (k : UnitState) → IsReadAt entry present f.place.unit (Some k) → (x : Option Instance)
        → IfSome (option_map (λ y. edit.Instance f.place (fated f.resent y)) x) (λ e. f.place.number < most_instances)
        → IfSome (option_map (λ y. edit.Instance f.place (fated f.resent y)) x) (IsOfKnown present)
    at k read None few = tt
    at k read (Some x) few = (subst IsSome (sym read.here) refl, few)

    known : (o : Option UnitState) → IsReadAt entry present f.place.unit o → IfSome (change_on o f) (λ e. f.place.number < most_instances)
        → IfSome (change_on o f) (IsOfKnown present)
    known None read few = tt
    known (Some k) read few = at k read (instance_now (Some k) f.place.number) few

-- whether the client may forget a name
pub aborted_on-is : (entry present : World) (host : ℕ) (name : List ℕ) (p : Place) (o : Option UnitState)
    → present ≡ record entry { units = present.units; hosts = present.hosts } → IsReadAt entry present p.unit o
    → Some p ≡ place_named present name → is_aborted_on o host p.number ≡ is_aborted present host name
aborted_on-is entry present host name p o rest read named =
    let awaits = option_any (awaits_report host) (instance_now o p.number) in
    ap (λ (s : Status). not awaits || has_failed s) (status_now-is entry present p.unit o rest read)
    ∙ aborted-is present host name p (instance_now o p.number) awaits named (instance_now-is entry present p o read) refl

-- a job is sent again if its workunit is open and it fits the host
module _ (w : World) (h : HostRow) (now : ℕ) (p : Place) where
  abbrev made : Workunit → Status → ℕ → Option OpenJob
  made u s deadline = cond (is_open s) (Some (record { unit = u; deadline = deadline })) None

  abbrev job_in : Option UnitBook → Option OpenJob
  job_in o = option_and_then (λ (b : UnitBook). made b.unit (status_at w p.unit) (deadline_at w p)) o

  job-is : (present : World) (o : Option UnitState) → IsReadAt w present p.unit o → open_job_on o p.number ≡ job_in (unit_at w p.unit)
  job-is present None read = sym (ap job_in read.1)
  job-is present (Some k) read =
      ap₂ (made k.unit)
      (status_before-is w present p.unit (Some k) read)
      (ap (λ (x : Option Instance). unwrap_or (option_map (λ (x : Instance). deadline_of x.owner) x) 0) (instance_before-is w present p (Some k) read))
      ∙ sym (ap job_in read.before)

  abbrev here : OpenJob → Option ℕ
  here j =
      cond (fits h j.unit (version_for w h j.unit.app))
      (Some (deadline_after now (estimate j.unit.rsc_fpops_est h.p_fpops) j.unit.delay_bound j.deadline)) None

  either : (s : Status) (is : Bool) (b : UnitBook) → is_open s ≡ is
      → option_and_then here (made b.unit s (deadline_at w p))
      ≡ cond (is && unit_fits w h b) (Some (deadline_after now (estimate b.unit.rsc_fpops_est h.p_fpops) b.unit.delay_bound (deadline_at w p))) None
  either s true b is = ap (λ t. option_and_then here (cond t (Some (record { unit = b.unit; deadline = deadline_at w p })) None)) is
  either s false b is = ap (λ t. option_and_then here (cond t (Some (record { unit = b.unit; deadline = deadline_at w p })) None)) is

  by_book : (o : Option UnitBook)
      → option_and_then here (job_in o)
      ≡ cond (unwrap_or (option_map (λ (b : UnitBook). is_open (status_at w p.unit) && unit_fits w h b) o) false)
      (Some (deadline_after now (unwrap_or (option_map (λ (b : UnitBook). estimate b.unit.rsc_fpops_est h.p_fpops) o) 0)
      (unwrap_or (option_map (λ (b : UnitBook). b.unit.delay_bound) o) 0) (deadline_at w p))) None
  by_book None = refl
  by_book (Some b) = either (status_at w p.unit) (is_open (status_at w p.unit)) b refl

  -- so the job that its unit state gives is sent again
  pub resent-is : (present : World) (o : Option UnitState) (job : Option OpenJob) → IsReadAt w present p.unit o → job ≡ open_job_on o p.number
      → option_and_then here job ≡ resent_to w h now p
  resent-is present o job read told = ap (option_and_then here) (told ∙ job-is present o read) ∙ by_book (unit_at w p.unit)
