use Rattle.std.proofs.Common.{◌≡◌, ◌++◌, drop, map}
use Rattle.sched_book.specs.Imports.{new_unit}
use Rattle.sched_book.proofs.delta.new_books.Given as goal

-- the workunits so far, and those of the rows that are left, are all
abbrev pub invariant-loop-unit : goal.invariant-loop-unit
invariant-loop-unit l = l.books ++ map new_unit (drop l.unit-index l.units) ≡ map new_unit l.units
