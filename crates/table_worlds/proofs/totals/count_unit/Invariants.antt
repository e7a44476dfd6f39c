use Rattle.std.proofs.Common.{◌≡◌, drop}
use Rattle.sched_book.specs.Count.{is_valid}
use Rattle.sched_book.specs.Numbered.{map_from}
use Rattle.sched_book.specs.Places.{book_verdict}
use Rattle.table_worlds.specs.Totals.{with_instances, with_unit}
use Rattle.table_worlds.proofs.totals.count_unit.Given as goal

-- the instances so far, and those that are left
abbrev pub invariant-loop-instance : goal.invariant-loop-instance
invariant-loop-instance l =
    map_from 1 (with_instances (λ x. is_valid (book_verdict l.apps l.book x)) l.book.unit.credit (drop l.instance-index l.book.instances)) l.totals
    ≡ map_from 1 (with_unit l.apps l.book) l.initial.totals
