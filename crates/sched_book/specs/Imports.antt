-- Promise. What an import adds, and why it is refused. The formats and the order of the refusals are this profile's.
use Rattle.std.specs.Prelude.{◌≡◌, ℕ, ◌+◌, Bool, true, false, not, ◌&&◌, ◌==◌, nat_le, if◌then◌else◌, List, [], ◌∷◌, ◌++◌, length, map, replicate, Option, Some, None}
use Rattle.std.specs.List.{list_any}
use Rattle.std.specs.Str.{bytes_eq}
use Rattle.rpc_records.specs.declared.fault.Fault.{Fault}
use Rattle.rpc_records.specs.declared.fault.Fault.TheVariants.{DuplicateName, UnknownReference, TableFull}
use Rattle.sched_book.specs.Classes.{imported}
use Rattle.sched_book.specs.Limits.{most_accounts, most_apps, most_versions, most_workunits, AreRowsInLimits}
use Rattle.sched_book.specs.Places.{place_where}
use Rattle.sched_book.specs.Settle.{fresh}
use Rattle.sched_book.specs.declared.instance.UnitBook.{UnitBook}
use Rattle.sched_book.specs.declared.rows.Account.{Account}
use Rattle.sched_book.specs.declared.rows.App.{App}
use Rattle.sched_book.specs.declared.rows.Rows.{Rows}
use Rattle.sched_book.specs.declared.rows.Rows.TheVariants as rows
use Rattle.sched_book.specs.declared.rows.Version.{Version}
use Rattle.sched_book.specs.declared.rows.Workunit.{Workunit}
use Rattle.sched_book.specs.declared.world.World.{World}

-- the rows that imports brought, the oldest first
pub record Shelf : Type 0 where
  pub accounts : List Account
  pub apps : List App
  pub versions : List Version
  pub units : List Workunit

abbrev pub empty_shelf : Shelf
empty_shelf = record { accounts = []; apps = []; versions = []; units = [] }

abbrev pub shelf_of : World → Shelf
shelf_of w = record { accounts = w.accounts; apps = w.apps; versions = w.versions; units = map (λ (b : UnitBook). imported b.unit) w.units }

-- the shelf with more rows after its own
abbrev pub shelved : Shelf → Rows → Shelf
shelved s (rows.Accounts xs) = record s { accounts = s.accounts ++ xs }
shelved s (rows.Apps xs) = record s { apps = s.apps ++ xs }
shelved s (rows.Versions xs) = record s { versions = s.versions ++ xs }
shelved s (rows.Workunits xs) = record s { units = s.units ++ xs }

-- two rows have the same name
abbrev pub same_account : Account → Account → Bool
same_account a b = bytes_eq a.authenticator b.authenticator

abbrev pub same_app : App → App → Bool
same_app a b = bytes_eq a.name b.name

abbrev pub is_version : List ℕ → List ℕ → ℕ → Version → Bool
is_version app platform version_num v = bytes_eq v.app app && bytes_eq v.platform platform && (v.version_num == version_num)

abbrev pub same_version : Version → Version → Bool
same_version a b = is_version b.app b.platform b.version_num a

abbrev pub same_unit : Workunit → Workunit → Bool
same_unit a b = bytes_eq a.name b.name

-- the place of the first row that has the name of a known row or of a row before it; the first row's place is n
abbrev pub first_known : {X : Type 0} → (X → X → Bool) → ℕ → List X → List X → Option ℕ
first_known same n known [] = None
first_known same n known (x ∷ xs) = if list_any (same x) known then Some n else first_known same (n + 1) (known ++ x ∷ []) xs

abbrev pub duplicate_at : Shelf → Rows → Option ℕ
duplicate_at s (rows.Accounts xs) = first_known same_account 1 s.accounts xs
duplicate_at s (rows.Apps xs) = first_known same_app 1 s.apps xs
duplicate_at s (rows.Versions xs) = first_known same_version 1 s.versions xs
duplicate_at s (rows.Workunits xs) = first_known same_unit 1 s.units xs

abbrev pub has_app : List App → List ℕ → Bool
has_app apps name = list_any (λ (a : App). bytes_eq a.name name) apps

-- the place of the first row whose application does not exist
abbrev pub unknown_at : Shelf → Rows → Option ℕ
unknown_at s (rows.Accounts xs) = None
unknown_at s (rows.Apps xs) = None
unknown_at s (rows.Versions xs) = place_where (λ (v : Version). not (has_app s.apps v.app)) xs
unknown_at s (rows.Workunits xs) = place_where (λ (u : Workunit). not (has_app s.apps u.app)) xs

-- no table has more rows than it may have
abbrev pub has_room : Shelf → Bool
has_room s =
    nat_le (length s.accounts) most_accounts && nat_le (length s.apps) most_apps
    && nat_le (length s.versions) most_versions && nat_le (length s.units) most_workunits

-- a duplicate name is reported before an unknown reference, and that before a full table
abbrev pub first_fault : Option ℕ → Option ℕ → Bool → Option Fault
first_fault (Some n) unknown room = Some (DuplicateName n)
first_fault None (Some n) room = Some (UnknownReference n)
first_fault None None false = Some TableFull
first_fault None None true = None

-- why rows are refused, if they are
abbrev pub fault_of_rows : Shelf → Rows → Option Fault
fault_of_rows s new = first_fault (duplicate_at s new) (unknown_at s new) (has_room (shelved s new))

-- an import may add these rows: their values are in range, and there is no reason to refuse them
pub record AreChecked (w : World) (new : Rows) : Type 0 where
  pub in_limits : AreRowsInLimits new
  pub unrefused : fault_of_rows (shelf_of w) new ≡ None

-- a new workunit, with its first instances
abbrev pub new_unit : Workunit → UnitBook
new_unit u = record { unit = u; instances = replicate u.target_nresults fresh }

abbrev pub with_rows : World → Rows → World
with_rows w (rows.Accounts xs) = record w { accounts = w.accounts ++ xs }
with_rows w (rows.Apps xs) = record w { apps = w.apps ++ xs }
with_rows w (rows.Versions xs) = record w { versions = w.versions ++ xs }
with_rows w (rows.Workunits xs) = record w { units = w.units ++ map new_unit xs }

abbrev pub row_count : Rows → ℕ
row_count (rows.Accounts xs) = length xs
row_count (rows.Apps xs) = length xs
row_count (rows.Versions xs) = length xs
row_count (rows.Workunits xs) = length xs
