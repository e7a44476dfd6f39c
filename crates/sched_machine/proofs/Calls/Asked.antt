-- The seconds of jobs that are sent again.
use Rattle.std.proofs.Common.{◌≡◌, ℕ, Bool, true, false, cond, List, [], ◌∷◌, Option, Some, None, refl, ap, ◌∙◌}
use Rattle.std.specs.Prelude.{option_map, unwrap_or, map, filter}
use Rattle.std.specs.List.{cons_option}
use Rattle.sched_book.specs.Desk.{workunit_at}
use Rattle.sched_book.specs.Fits.{estimate, estimate_at}
use Rattle.sched_book.specs.Lost.{delay_at, deadline_after, is_resent}
use Rattle.sched_book.specs.Places.{unit_at}
use Rattle.sched_book.specs.Step.{deadline_at}
use Rattle.sched_book.specs.declared.instance.Place.{Place}
use Rattle.sched_book.specs.declared.instance.UnitBook.{UnitBook}
use Rattle.sched_book.specs.declared.rows.HostRow.{HostRow}
use Rattle.sched_book.specs.declared.rows.Workunit.{Workunit}
use Rattle.sched_book.specs.declared.world.World.{World}
use Rattle.lost_jobs.specs.Fates.{fate}
use Rattle.sched_machine.specs.Asked.{place_resent, resent_places}

-- the seconds, by the workunit alone
by_unit : (h : HostRow) (o : Option UnitBook)
    → unwrap_or (option_map (λ (b : UnitBook). estimate b.unit.rsc_fpops_est h.p_fpops) o) 0
    ≡ unwrap_or (option_map (λ (u : Workunit). estimate u.rsc_fpops_est h.p_fpops) (option_map (λ (b : UnitBook). b.unit) o)) 0
by_unit h None = refl
by_unit h (Some b) = refl

pub estimate_none : (w : World) (h : HostRow) (p : Place) → workunit_at w p.unit ≡ None → estimate_at w h p ≡ 0
estimate_none w h p none =
    by_unit h (unit_at w p.unit) ∙ ap (λ o. unwrap_or (option_map (λ (u : Workunit). estimate u.rsc_fpops_est h.p_fpops) o) 0) none

pub estimate_some : (w : World) (h : HostRow) (p : Place) (u : Workunit) → workunit_at w p.unit ≡ Some u
    → estimate_at w h p ≡ estimate u.rsc_fpops_est h.p_fpops
estimate_some w h p u stands =
    by_unit h (unit_at w p.unit) ∙ ap (λ o. unwrap_or (option_map (λ (u : Workunit). estimate u.rsc_fpops_est h.p_fpops) o) 0) stands

-- the lost jobs whose fates send them again are those that are sent again
pub resent_are : (w : World) (h : HostRow) (now : ℕ) (places : List Place) → resent_places (map (fate w h now) places) ≡ filter (is_resent w h) places
resent_are w h now [] = refl
resent_are w h now (p ∷ places) = cases (is_resent w h p) (resent_are w h now places)
  where
    deadline : ℕ
    deadline = deadline_after now (estimate_at w h p) (delay_at w p) (deadline_at w p)

    cases : (b : Bool) → resent_places (map (fate w h now) places) ≡ filter (is_resent w h) places
        → cons_option (place_resent (cond b (Some deadline) None) p) (resent_places (map (fate w h now) places))
        ≡ cond b (p ∷ filter (is_resent w h) places) (filter (is_resent w h) places)
    cases true rest = ap (λ ps. p ∷ ps) rest
    cases false rest = rest
