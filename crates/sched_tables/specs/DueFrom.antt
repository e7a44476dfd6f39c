-- Rule. The moment from which what is due is looked for: nothing is due before it.
use Rattle.std.specs.Prelude.{◌≡◌, ℕ, max, ◌==◌, if◌then◌else◌, List, [], length, fold}
use Rattle.sched_book.specs.Places.{overdue}
use Rattle.sched_book.specs.declared.delta.Delta.{Delta}
use Rattle.sched_book.specs.declared.delta.Delta.TheVariants as delta
use Rattle.sched_book.specs.declared.delta.Edit.{Edit}
use Rattle.sched_book.specs.declared.delta.Edit.TheVariants as edit
use Rattle.sched_book.specs.declared.instance.Place.{Place}
use Rattle.sched_book.specs.declared.world.World.{World}
use Rattle.table_reading.specs.Deadlines.{lowered_to}

-- No instance that is held has its deadline before this moment.
abbrev pub NothingIsDueBefore : World → ℕ → Type 0
NothingIsDueBefore w due_from = overdue w due_from ≡ []

-- `due_from` after a look-up of what is due at a moment: that moment if nothing is due, and if it is later
abbrev pub raised : ℕ → ℕ → List Place → ℕ
raised due_from now due = if length due == 0 then max due_from now else due_from

-- `due_from`, lowered to the deadline that an edit gives to an instance that is held
abbrev pub lowered_by : ℕ → Edit → ℕ
lowered_by due_from (edit.Host number h) = due_from
lowered_by due_from (edit.Instance p x) = lowered_to due_from x
lowered_by due_from (edit.Class unit class) = due_from

-- and to those that changes give; new rows give none
abbrev pub lowered : ℕ → Delta → ℕ
lowered due_from (delta.Rows new) = due_from
lowered due_from (delta.Edits edits) = fold lowered_by due_from edits
