-- Rule. How the rows of an import are checked against the rows that exist.
use Rattle.std.specs.Prelude.{ℕ, ◌+◌, Bool, ◌&&◌, nat_le, length, ⊤}
use Rattle.sched_book.specs.Limits.{most_accounts, most_apps, most_versions, most_workunits}
use Rattle.sched_book.specs.declared.desk.Counts.{Counts}
use Rattle.sched_book.specs.declared.rows.Rows.{Rows}
use Rattle.sched_book.specs.declared.rows.Rows.TheVariants as rows
use Rattle.office_files.specs.declared.fault.RowsFault.{RowsFault}
use Rattle.office_files.specs.declared.fault.RowsFault.TheVariants.{BadCsv, DuplicateName, UnknownReference, TableFull, Unavailable}

-- how many rows of each table an import brings
abbrev pub new_accounts : Rows → ℕ
new_accounts (rows.Accounts xs) = length xs
new_accounts (rows.Apps xs) = 0
new_accounts (rows.Versions xs) = 0
new_accounts (rows.Workunits xs) = 0

abbrev pub new_apps : Rows → ℕ
new_apps (rows.Accounts xs) = 0
new_apps (rows.Apps xs) = length xs
new_apps (rows.Versions xs) = 0
new_apps (rows.Workunits xs) = 0

abbrev pub new_versions : Rows → ℕ
new_versions (rows.Accounts xs) = 0
new_versions (rows.Apps xs) = 0
new_versions (rows.Versions xs) = length xs
new_versions (rows.Workunits xs) = 0

abbrev pub new_units : Rows → ℕ
new_units (rows.Accounts xs) = 0
new_units (rows.Apps xs) = 0
new_units (rows.Versions xs) = 0
new_units (rows.Workunits xs) = length xs

-- with these numbers of rows in the tables there is room for the new ones
abbrev pub has_room_for : Counts → Rows → Bool
has_room_for c new =
    nat_le (c.accounts + new_accounts new) most_accounts && nat_le (c.apps + new_apps new) most_apps
    && nat_le (c.versions + new_versions new) most_versions && nat_le (c.workunits + new_units new) most_workunits

-- the faults that checking rows may have
abbrev pub IsOfChecking : RowsFault → Type 0
IsOfChecking (BadCsv row column) = ⊥
IsOfChecking (DuplicateName row) = ⊤
IsOfChecking (UnknownReference row) = ⊤
IsOfChecking TableFull = ⊤
IsOfChecking (Unavailable cause) = ⊤
