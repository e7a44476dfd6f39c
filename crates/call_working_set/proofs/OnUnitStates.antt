-- A unit state says the same as the worlds before a call and now.
use Rattle.std.proofs.Common.{◌≡◌, ℕ, [], Option, Some, None, sym, ap, ◌∙◌}
use Rattle.std.specs.Prelude.{option_map, option_and_then, unwrap_or, slice_get}
use Rattle.sched_book.specs.Count.{status}
use Rattle.sched_book.specs.Places.{instance_at, agreement_by, status_at, status_of, existing_place}
use Rattle.sched_book.specs.Desk.{instances_at}
use Rattle.sched_book.specs.declared.instance.Instance.{Instance}
use Rattle.sched_book.specs.declared.instance.Place.{Place}
use Rattle.sched_book.specs.declared.instance.Status.TheVariants.{FailedTotal}
use Rattle.sched_book.specs.declared.instance.UnitBook.{UnitBook}
use Rattle.sched_book.specs.declared.world.World.{World}
use Rattle.call_working_set.specs.WorkingSets.{IsReadAt, instances_now, instance_before, instance_now, status_before, status_now, existing_on}
use Rattle.call_working_set.specs.UnitState.{UnitState}

-- the instances now, and one of them before
pub instances_now-is : (entry present : World) (unit : ℕ) (o : Option UnitState) → IsReadAt entry present unit o → instances_now o ≡ instances_at present unit
instances_now-is entry present unit None read = sym (ap (λ (b : Option UnitBook). unwrap_or (option_map (λ (b : UnitBook). b.instances) b) []) read.0)
instances_now-is entry present unit (Some k) read = sym (ap (λ (b : Option UnitBook). unwrap_or (option_map (λ (b : UnitBook). b.instances) b) []) read.here)

pub instance_before-is : (entry present : World) (p : Place) (o : Option UnitState) → IsReadAt entry present p.unit o → instance_before o p.number ≡ instance_at entry p
instance_before-is entry present p None read = sym (ap (option_and_then (λ (b : UnitBook). slice_get b.instances p.number)) read.1)
instance_before-is entry present p (Some k) read = sym (ap (option_and_then (λ (b : UnitBook). slice_get b.instances p.number)) read.before)

pub instance_now-is : (entry present : World) (p : Place) (o : Option UnitState) → IsReadAt entry present p.unit o → instance_now o p.number ≡ instance_at present p
instance_now-is entry present p None read = sym (ap (option_and_then (λ (b : UnitBook). slice_get b.instances p.number)) read.0)
instance_now-is entry present p (Some k) read = sym (ap (option_and_then (λ (b : UnitBook). slice_get b.instances p.number)) read.here)

-- the status before
pub status_before-is : (entry present : World) (unit : ℕ) (o : Option UnitState) → IsReadAt entry present unit o → status_before o ≡ status_at entry unit
status_before-is entry present unit None read = sym (ap (λ (b : Option UnitBook). unwrap_or (option_map (status_of entry) b) FailedTotal) read.1)
status_before-is entry present unit (Some k) read =
    ap (λ a. status a k.unit k.before) (sym read.agreement)
    ∙ sym (ap (λ (b : Option UnitBook). unwrap_or (option_map (status_of entry) b) FailedTotal) read.before)

-- the agreement of a workunit is as it was, because the applications are
pub agreed : (entry present : World) (k : UnitState) → present ≡ record entry { units = present.units; hosts = present.hosts }
    → agreement_by entry.apps k.unit.app ≡ k.agreement → agreement_by present.apps k.unit.app ≡ k.agreement
agreed entry present k rest agreement = ap (λ (v : World). agreement_by v.apps k.unit.app) rest ∙ agreement

-- the status now
pub status_now-is : (entry present : World) (unit : ℕ) (o : Option UnitState) → present ≡ record entry { units = present.units; hosts = present.hosts }
    → IsReadAt entry present unit o → status_now o ≡ status_at present unit
status_now-is entry present unit None rest read = sym (ap (λ (b : Option UnitBook). unwrap_or (option_map (status_of present) b) FailedTotal) read.0)
status_now-is entry present unit (Some k) rest read =
    ap (λ a. status a k.unit k.present) (sym (agreed entry present k rest read.agreement))
    ∙ sym (ap (λ (b : Option UnitBook). unwrap_or (option_map (status_of present) b) FailedTotal) read.here)

-- the place, if there was an instance
pub existing_place-is : (entry present : World) (p : Place) (o : Option UnitState) → IsReadAt entry present p.unit o → existing_on o p ≡ existing_place entry p
existing_place-is entry present p o read = ap (option_map (λ (x : Instance). p)) (instance_before-is entry present p o read)

pub ruleset standing_steps = (existing_place-is)
