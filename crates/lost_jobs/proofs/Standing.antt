-- The instance at a place, and its name.
use Rattle.std.proofs.Common.{◌≡◌, ℕ, Bool, true, List, [], Option, Some, None, refl, sym, ap, ◌∙◌}
use Rattle.std.specs.Prelude.{option_map, unwrap_or, not, ◌||◌}
use Rattle.sched_book.specs.Count.{has_failed}
use Rattle.sched_book.specs.Lost.{is_aborted}
use Rattle.sched_book.specs.Names.{instance_name}
use Rattle.sched_book.specs.Places.{option_any, unit_at, instance_at, status_at, passes, place_named, name_at}
use Rattle.sched_book.specs.Desk.{workunit_at}
use Rattle.sched_book.specs.Reports.{awaits_report}
use Rattle.sched_book.specs.declared.instance.Instance.{Instance}
use Rattle.sched_book.specs.declared.instance.Place.{Place}
use Rattle.sched_book.specs.declared.instance.UnitBook.{UnitBook}
use Rattle.sched_book.specs.declared.rows.Workunit.{Workunit}
use Rattle.sched_book.specs.declared.world.World.{World}
use Rattle.sched_book.proofs.Recording.{passes-is}

-- its name
by_unit : (p : Place) (o : Option UnitBook)
    → unwrap_or (option_map (λ (b : UnitBook). instance_name b.unit.name p.number) o) []
    ≡ unwrap_or (option_map (λ (u : Workunit). instance_name u.name p.number) (option_map (λ (b : UnitBook). b.unit) o)) []
by_unit p None = refl
by_unit p (Some b) = refl

pub name_none : (w : World) (p : Place) → workunit_at w p.unit ≡ None → name_at w p ≡ []
name_none w p none = by_unit p (unit_at w p.unit) ∙ ap (λ o. unwrap_or (option_map (λ (u : Workunit). instance_name u.name p.number) o) []) none

pub name_some : (w : World) (p : Place) (u : Workunit) → workunit_at w p.unit ≡ Some u → name_at w p ≡ instance_name u.name p.number
name_some w p u stands = by_unit p (unit_at w p.unit) ∙ ap (λ o. unwrap_or (option_map (λ (u : Workunit). instance_name u.name p.number) o) []) stands

-- whether it awaits a report, and whether its workunit failed, decide on its name
pub aborted-is : (w : World) (host : ℕ) (name : List ℕ) (p : Place) (o : Option Instance) (awaits : Bool)
    → Some p ≡ place_named w name → o ≡ instance_at w p → option_any (awaits_report host) o ≡ awaits
    → (not awaits || has_failed (status_at w p.unit)) ≡ is_aborted w host name
aborted-is w host name p o awaits named stands is =
    sym
    (ap (λ (b : Bool). not b || has_failed (status_at w p.unit))
    (passes-is w (awaits_report host) p ∙ ap (option_any (awaits_report host)) (sym stands) ∙ is))
    ∙ ap (λ (o : Option Place). unwrap_or (option_map (λ p. not (passes w (λ b x. awaits_report host x) p) || has_failed (status_at w p.unit)) o) true) named
