-- A unit state says the same as the worlds before the call and now.
use Rattle.std.proofs.Common.{◌≡◌, ℕ, List, [], length, Option, Some, None, sym, ap, ap₂, ◌∙◌}
use Rattle.std.specs.Prelude.{option_map, unwrap_or}
use Rattle.rpc_records.specs.declared.request.Report.{Report}
use Rattle.sched_book.specs.Count.{has_failed}
use Rattle.sched_book.specs.Desk.{instances_at}
use Rattle.sched_book.specs.Places.{unit_at, status_at, agreement_of}
use Rattle.sched_book.specs.declared.instance.Instance.{Instance}
use Rattle.sched_book.specs.declared.instance.Place.{Place}
use Rattle.sched_book.specs.declared.instance.Status.{Status}
use Rattle.sched_book.specs.declared.instance.UnitBook.{UnitBook}
use Rattle.sched_book.specs.declared.rows.Agreement.{Agreement}
use Rattle.sched_book.specs.declared.world.World.{World}
use Rattle.call_working_set.specs.WorkingSets.{IsReadAt}
use Rattle.call_working_set.specs.UnitState.{UnitState}
use Rattle.call_working_set.proofs.OnUnitStates.{agreed, instances_now-is, status_before-is}
use Rattle.quorum_credit.specs.Growing.{fresh_changes, growth_of, growth}
use Rattle.quorum_credit.specs.Late.{late_in}
use Rattle.quorum_credit.specs.UnitStates.{reported_on, late_on, growth_on, scores_on}
use Rattle.quorum_credit.specs.Scoring.{standings_in, scores_from, scores_at}
use Rattle.quorum_credit.specs.Settled.{new_instances}
use Rattle.quorum_credit.specs.Taken.{reported_in}
use Rattle.quorum_credit.specs.declared.scores.OwnedStanding.{OwnedStanding}

pub reported-is : (host : ℕ) (r : Report) (entry present : World) (p : Place) (o : Option UnitState) → IsReadAt entry present p.unit o
    → reported_on host r o p.number ≡ reported_in host r (has_failed (status_at entry p.unit)) (instances_at present p.unit) p.number
reported-is host r entry present p o read =
    ap₂ (λ (s : Status) (xs : List Instance). reported_in host r (has_failed s) xs p.number)
    (status_before-is entry present p.unit o read) (instances_now-is entry present p.unit o read)

pub late-is : (entry present : World) (p : Place) (o : Option UnitState) → IsReadAt entry present p.unit o
    → late_on o p.number ≡ late_in (instances_at present p.unit) p.number
late-is entry present p o read = ap (λ (xs : List Instance). late_in xs p.number) (instances_now-is entry present p.unit o read)

pub growth-is : (entry present : World) (unit : ℕ) (o : Option UnitState) → present ≡ record entry { units = present.units; hosts = present.hosts }
    → IsReadAt entry present unit o → growth_on unit o ≡ growth present unit
growth-is entry present unit None rest read = sym (ap (λ (b : Option UnitBook). unwrap_or (option_map (growth_of present unit) b) []) read.0)
growth-is entry present unit (Some k) rest read =
    ap (λ (a : Agreement). fresh_changes unit (length k.present) (new_instances a k.unit k.present)) (sym (agreed entry present k rest read.agreement))
    ∙ sym (ap (λ (b : Option UnitBook). unwrap_or (option_map (growth_of present unit) b) []) read.here)

pub ruleset growth_steps = (growth-is)

abbrev credit_of : Option UnitBook → ℕ
credit_of o = unwrap_or (option_map (λ (b : UnitBook). b.unit.credit) o) 0

abbrev standings_of : World → Option UnitBook → List OwnedStanding
standings_of w o = unwrap_or (option_map (λ (b : UnitBook). standings_in (agreement_of w b) b.unit b.instances) o) []

pub scores-is : (entry present : World) (unit : ℕ) (o : Option UnitState) → present ≡ record entry { units = present.units; hosts = present.hosts }
    → IsReadAt entry present unit o → scores_on o ≡ scores_at entry present unit
scores-is entry present unit None rest read =
    sym (ap (λ (o : Option UnitBook). scores_from (credit_of o) (standings_of entry (unit_at entry unit)) 0 (standings_of present o)) read.0)
scores-is entry present unit (Some k) rest read =
    sym (ap (λ (o : Option UnitBook). scores_from (credit_of o) (standings_of entry (unit_at entry unit)) 0 (standings_of present (unit_at present unit))) read.here
    ∙ ap₂ (λ (old new : List OwnedStanding). scores_from k.unit.credit old 0 new)
    (ap (standings_of entry) read.before ∙ ap (λ a. standings_in a k.unit k.before) read.agreement)
    (ap (standings_of present) read.here ∙ ap (λ a. standings_in a k.unit k.present) (agreed entry present k rest read.agreement)))

pub ruleset scores_steps = (scores-is)
