-- Words. What edits make of the workunit at one place.
use Rattle.std.specs.Prelude.{ℕ, ◌==◌, if◌then◌else◌, List, fold, Option, option_map}
use Rattle.sched_book.specs.Classes.{with_class}
use Rattle.sched_book.specs.Delta.{with_instance}
use Rattle.sched_book.specs.declared.delta.Edit.{Edit}
use Rattle.sched_book.specs.declared.delta.Edit.TheVariants as edit
use Rattle.sched_book.specs.declared.instance.UnitBook.{UnitBook}

-- the workunit at a place after an edit, if `b` was the one there
abbrev pub book_by : ℕ → Option UnitBook → Edit → Option UnitBook
book_by unit b (edit.Host number h) = b
book_by unit b (edit.Instance p x) = if p.unit == unit then option_map (with_instance p.number x) b else b
book_by unit b (edit.Class place class) = if place == unit then option_map (with_class class) b else b

-- the same after several edits
abbrev pub book_after : ℕ → Option UnitBook → List Edit → Option UnitBook
book_after unit b edits = fold (book_by unit) b edits
