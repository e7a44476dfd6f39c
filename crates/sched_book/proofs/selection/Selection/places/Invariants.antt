use Rattle.std.proofs.Common.{◌≡◌, ◌+◌, ◌++◌, drop}
use Rattle.sched_book.specs.Places.{places_among, places_where}
use Rattle.sched_book.specs.Selections.{includes}
use Rattle.sched_book.proofs.selection.Selection.places.Given as goal

-- the places so far, and those in the workunits that are left
abbrev pub invariant-loop-index : goal.invariant-loop-index
invariant-loop-index l =
    l.places ++ places_among (l.index + 1) (λ b x. includes l.world.hosts l.self x) (drop l.index l.book-items)
    ≡ places_where l.world (λ b x. includes l.world.hosts l.self x)
