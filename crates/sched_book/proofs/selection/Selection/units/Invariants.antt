use Rattle.std.proofs.Common.{◌≡◌, ◌+◌, ◌++◌, drop}
use Rattle.std.specs.List.{list_any}
use Rattle.sched_book.specs.Desk.{units_from}
use Rattle.sched_book.specs.Selections.{includes}
use Rattle.sched_book.specs.declared.instance.UnitBook.{UnitBook}
use Rattle.sched_book.proofs.selection.Selection.units.Given as goal

-- the workunits so far, and those among the ones that are left
abbrev pub invariant-loop-index : goal.invariant-loop-index
invariant-loop-index l =
    l.units ++ units_from (l.index + 1) (λ (b : UnitBook). list_any (includes l.world.hosts l.self) b.instances) (drop l.index l.book-items)
    ≡ units_from 1 (λ (b : UnitBook). list_any (includes l.world.hosts l.self) b.instances) l.world.units
