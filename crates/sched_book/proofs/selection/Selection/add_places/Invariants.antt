use Rattle.std.proofs.Common.{◌≡◌, ◌++◌, drop}
use Rattle.sched_book.specs.Places.{places_in}
use Rattle.sched_book.specs.Selections.{includes}
use Rattle.sched_book.proofs.selection.Selection.add_places.Given as goal

-- the places so far, and those of the instances that are left
abbrev pub invariant-loop-number : goal.invariant-loop-number
invariant-loop-number l =
    l.places ++ places_in l.unit l.number (includes l.hosts l.self) (drop l.number l.instances)
    ≡ l.fn.places ++ places_in l.unit 0 (includes l.hosts l.self) l.instances
