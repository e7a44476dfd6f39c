-- What a reply says of jobs, by the states of their workunits.
use Rattle.std.proofs.Common.{◌≡◌, ℕ, Bool, List, Option, Some, None, sym, refl, ap, ◌∙◌}
use Rattle.std.specs.Prelude.{option_map, option_and_then}
use Rattle.rpc_records.specs.declared.reply.Job.{Job}
use Rattle.sched_book.specs.Desk.{workunit_at}
use Rattle.sched_book.specs.Fits.{version_for, version_at_unit}
use Rattle.sched_book.specs.Names.{instance_name}
use Rattle.sched_book.specs.Places.{unit_at, name_at}
use Rattle.sched_book.specs.Step.{deadline_at, job_of, job_at}
use Rattle.sched_book.specs.declared.instance.Place.{Place}
use Rattle.sched_book.specs.declared.instance.UnitBook.{UnitBook}
use Rattle.sched_book.specs.declared.rows.HostRow.{HostRow}
use Rattle.sched_book.specs.declared.rows.Version.{Version}
use Rattle.sched_book.specs.declared.rows.Workunit.{Workunit}
use Rattle.sched_book.specs.declared.world.World.{World}
use Rattle.call_working_set.specs.WorkingSets.{IsUnitStateAt}
use Rattle.call_working_set.specs.UnitState.{UnitState}
use Rattle.lost_jobs.proofs.Standing.{name_none, name_some}
use Rattle.sched_machine.proofs.OptionParts.{mapped_by}

-- for a workunit and a version that were found
pub job_at_some : (w : World) (h : HostRow) (resent : Bool) (p : Place) (u : Workunit) (v : Version) → workunit_at w p.unit ≡ Some u
    → version_for w h u.app ≡ Some v → job_at w h resent p ≡ Some (job_of (instance_name u.name p.number) (deadline_at w p) h resent u v)
job_at_some w h resent p u v stands found =
    let job : List ℕ → Workunit → Version → Job = λ name x. job_of name (deadline_at w p) h resent x in
    let b = mapped_by (λ (b : UnitBook). b.unit) (unit_at w p.unit) u stands in
    ap (option_and_then (λ (b : UnitBook). option_map (job (name_at w p) b.unit) (version_for w h b.unit.app))) b.1
    ∙ ap (λ (x : Workunit). option_map (job (name_at w p) x) (version_for w h x.app)) b.2
    ∙ ap (option_map (job (name_at w p) u)) found
    ∙ ap (λ name. Some (job name u v)) (name_some w p u stands)

-- if the rows stay, the names stay
pub name_by : (w v : World) (p : Place) → workunit_at v p.unit ≡ workunit_at w p.unit → name_at v p ≡ name_at w p
name_by w v p same = cases (workunit_at w p.unit) refl
  where
    cases : (o : Option Workunit) → workunit_at w p.unit ≡ o → name_at v p ≡ name_at w p
    cases None is = name_none v p (same ∙ is) ∙ sym (name_none w p is)
    cases (Some u) is = name_some v p u (same ∙ is) ∙ sym (name_some w p u is)

-- the applications of workunits stay through a call
abbrev app_in : Option UnitBook → Option (List ℕ)
app_in o = option_map (λ (b : UnitBook). b.unit.app) o

app_before : (entry present : World) (unit : ℕ) (o : Option UnitState) → IsUnitStateAt entry present unit o → app_in (unit_at present unit) ≡ app_in (unit_at entry unit)
app_before entry present unit None unit_state = ap app_in unit_state
app_before entry present unit (Some k) unit_state = ap app_in unit_state.here ∙ sym (ap app_in unit_state.before)

-- the version that the host runs, by the row of the workunit as it is now
module _ (entry present : World) (h : HostRow) (unit : ℕ) (o : Option UnitState) (unit_state : IsUnitStateAt entry present unit o) where
  pub version_none : workunit_at present unit ≡ None → None ≡ version_at_unit entry h unit
  version_none none = cases (unit_at present unit) none (unit_at entry unit) (app_before entry present unit o unit_state)
    where
      cases : (q : Option UnitBook) → option_map (λ (b : UnitBook). b.unit) q ≡ None → (p : Option UnitBook) → app_in q ≡ app_in p
          → None ≡ option_and_then (λ (b : UnitBook). version_for entry h b.unit.app) p
      cases None is None same = refl
      cases None is (Some b) same = absurd cc
      cases (Some b) is p same = absurd cc

  pub version_some : (u : Workunit) → workunit_at present unit ≡ Some u → version_for entry h u.app ≡ version_at_unit entry h unit
  version_some u some = cases (unit_at present unit) some (unit_at entry unit) (app_before entry present unit o unit_state)
    where
      cases : (q : Option UnitBook) → option_map (λ (b : UnitBook). b.unit) q ≡ Some u → (p : Option UnitBook) → app_in q ≡ app_in p
          → version_for entry h u.app ≡ option_and_then (λ (b : UnitBook). version_for entry h b.unit.app) p
      cases None is p same = absurd cc
      cases (Some b) is None same = absurd cc
      cases (Some b) is (Some d) same =
          let row : b.unit ≡ u = cc in
          let app : b.unit.app ≡ d.unit.app = cc in
          ap (version_for entry h) (ap (λ (x : Workunit). x.app) (sym row) ∙ app)
