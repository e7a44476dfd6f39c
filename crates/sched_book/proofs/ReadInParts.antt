-- The status of a workunit that was read in parts.
use Rattle.std.proofs.Common.{◌≡◌, ◌∙◌, ℕ, List, [], Option, Some, None, ap}
use Rattle.std.specs.Prelude.{option_map, unwrap_or}
use Rattle.sched_book.specs.Count.{status}
use Rattle.sched_book.specs.Desk.{workunit_at, agreement_at, instances_at}
use Rattle.sched_book.specs.Places.{unit_at, agreement_of, status_of, status_at}
use Rattle.sched_book.specs.declared.instance.Instance.{Instance}
use Rattle.sched_book.specs.declared.instance.Status.TheVariants.{FailedTotal}
use Rattle.sched_book.specs.declared.instance.UnitBook.{UnitBook}
use Rattle.sched_book.specs.declared.rows.Agreement.{Agreement}
use Rattle.sched_book.specs.declared.rows.Workunit.{Workunit}
use Rattle.sched_book.specs.declared.world.World.{World}

pub status_found : (w : World) (unit : ℕ) (a : Agreement) (u : Workunit) (xs : List Instance) → Some u ≡ workunit_at w unit
    → Some a ≡ agreement_at w unit → xs ≡ instances_at w unit → status a u xs ≡ status_at w unit
status_found w unit a u xs row agreement instances = at (unit_at w unit) row agreement instances
  where
    at : (o : Option UnitBook) → Some u ≡ option_map (λ (b : UnitBook). b.unit) o → Some a ≡ option_map (agreement_of w) o
        → xs ≡ unwrap_or (option_map (λ (b : UnitBook). b.instances) o) []
        → status a u xs ≡ unwrap_or (option_map (status_of w) o) FailedTotal
    at None row agreement instances = absurd cc
    at (Some b) row agreement instances =
        let same_unit : u ≡ b.unit = cc in
        let same_agreement : a ≡ agreement_of w b = cc in
        ap (λ z. status z u xs) same_agreement
        ∙ ap (λ z. status (agreement_of w b) z xs) same_unit
        ∙ ap (status (agreement_of w b) b.unit) instances
