-- The workunit at a place in a world after edits.
use Rattle.std.proofs.Common.{◌≡◌, ℕ, List, [], ◌∷◌, refl, ap, ◌∙◌}
use Rattle.sched_book.specs.Classes.{with_class}
use Rattle.sched_book.specs.Places.{unit_at}
use Rattle.sched_book.specs.Delta.{with_instance, edited_one, edited}
use Rattle.sched_book.specs.UnitChanges.{book_by, book_after}
use Rattle.sched_book.specs.declared.delta.Edit.{Edit}
use Rattle.sched_book.specs.declared.delta.Edit.TheVariants as edit
use Rattle.sched_book.specs.declared.world.World.{World}
use Rattle.sched_book.proofs.PlacesOf.{nth-modify_nth}

-- the workunit at a place after one edit
book_one : (w : World) (unit : ℕ) (c : Edit) → unit_at (edited_one w c) unit ≡ book_by unit (unit_at w unit) c
book_one w unit (edit.Host number h) = refl
book_one w unit (edit.Instance p x) = nth-modify_nth (with_instance p.number x) w.units p.unit unit
book_one w unit (edit.Class place class) = nth-modify_nth (with_class class) w.units place unit

pub unit_at-edited : (w : World) (unit : ℕ) (cs : List Edit) → unit_at (edited w cs) unit ≡ book_after unit (unit_at w unit) cs
unit_at-edited w unit [] = refl
unit_at-edited w unit (c ∷ cs) = unit_at-edited (edited_one w c) unit cs ∙ ap (λ b. book_after unit b cs) (book_one w unit c)
