-- Words. Which instances of a world a selection of the plain desk includes.
use Rattle.std.specs.Prelude.{ℕ, ◌*◌, Bool, ◌&&◌, List, count_by}
use Rattle.sched_book.specs.Count.{is_valid}
use Rattle.sched_book.specs.Places.{is_owned_by, is_held_by, was_sent, is_of_user, is_overdue, book_verdict}
use Rattle.sched_book.specs.declared.instance.Instance.{Instance}
use Rattle.sched_book.specs.declared.instance.UnitBook.{UnitBook}
use Rattle.sched_book.specs.declared.rows.App.{App}
use Rattle.sched_book.specs.declared.rows.HostRow.{HostRow}
use Rattle.sched_book.specs.declared.selection.Selection.{Selection}
use Rattle.sched_book.specs.declared.selection.Selection.TheVariants.{OwnedBy, HeldBy, SentOn, OfUser, Overdue}

-- a selection includes an instance, if these are the hosts
abbrev pub includes : List HostRow → Selection → Instance → Bool
includes hosts (OwnedBy host) x = is_owned_by host x
includes hosts (HeldBy host) x = is_held_by host x
includes hosts (SentOn host day) x = was_sent host day x
includes hosts (OfUser account) x = is_of_user hosts account x
includes hosts (Overdue now) x = is_overdue now x

-- the credit of those of a workunit's instances that a selection includes: the workunit's credit for each valid one
abbrev pub credit_of : List HostRow → List App → Selection → UnitBook → ℕ
credit_of hosts apps s b = b.unit.credit * count_by (λ x. includes hosts s x && is_valid (book_verdict apps b x)) b.instances
