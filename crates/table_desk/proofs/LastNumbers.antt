-- The last number of a table is the number of its rows.
use Rattle.std.proofs.Common.{◌≡◌, ℕ, ◌+◌, true, List, [], ◌∷◌, map, filter, length, Option, Some, unwrap_or, refl, ap, ◌∙◌, arith}
use Rattle.std.specs.List.{enumerate_from, last_or}
use Rattle.sqlite_value.specs.declared.value.Value.{Value}
use Rattle.sqlite_value.specs.Order.{Row, column}
use Rattle.sqlite.specs.Effect.{Database}
use Rattle.sched_book.specs.Places.{held_by, host_credit}
use Rattle.sched_book.specs.declared.instance.UnitBook.{UnitBook}
use Rattle.sched_book.specs.declared.rows.Account.{Account as Book}
use Rattle.sched_book.specs.declared.rows.App.{App as Application}
use Rattle.sched_book.specs.declared.rows.HostRow.{HostRow}
use Rattle.sched_book.specs.declared.rows.Version.{Version as Made}
use Rattle.sched_book.specs.declared.world.World.{World}
use Rattle.table_meaning.specs.declared.rows.StoredRow.TheVariants as stored
use Rattle.table_meaning.specs.declared.tables.TableName.{TableName}
use Rattle.table_meaning.specs.declared.tables.TableName.TheVariants.{Account, App, Version, Unit, Host}
use Rattle.table_meaning.specs.Kept.{number_of}
use Rattle.table_meaning.specs.Listings.{rows_where, last_number_in}
use Rattle.table_meaning.specs.Rows.{account_key, app_key, version_key, unit_key, host_key, columns_of, whole}
use Rattle.table_meaning.specs.Worlds.{contents_of, account_row, app_row, version_row, unit_row, host_row}
use Rattle.table_meaning.proofs.Listings.{keyed_by_number}
use Rattle.table_desk.specs.Asked.{Tell}
use Rattle.table_desk.proofs.Standing.{rows_of_list}

all_kept : {X : Type 0} (xs : List X) → filter (λ x. true) xs ≡ xs
all_kept [] = refl
all_kept (x ∷ xs) = ap (λ l. x ∷ l) (all_kept xs)

module _ {X : Type 0} (columns : ℕ × X → Row) (numbered : (n : ℕ) (x : X) → column (columns (n, x)) 0 ≡ whole n) where
  last_from : (from : ℕ) (o : Option Value) (xs : List X) → o ≡ Some (whole from) → last_or o (map (λ row. column row 0) (map columns (enumerate_from (from + 1) xs))) ≡ Some (whole (from + length xs))
  last_from from o [] is = is ∙ ap (λ n. Some (whole n)) (let same : from ≡ from + 0 = omega arith in same)
  last_from from o (x ∷ xs) is =
      last_from (from + 1) (Some (column (columns (from + 1, x)) 0)) xs (ap Some (numbered (from + 1) x))
      ∙ ap (λ n. Some (whole n)) (let same : from + 1 + length xs ≡ from + length (x ∷ xs) = omega arith in same)

  last_counted : (xs : List X) → last_number_in (map columns (enumerate_from 1 xs)) ≡ whole (length xs)
  last_counted [] = refl
  last_counted (x ∷ xs) =
      ap (λ o. unwrap_or o (whole 0)) (last_from 1 (Some (column (columns (1, x)) 0)) xs (ap Some (numbered 1 x)))
      ∙ ap whole (let same : 1 + length xs ≡ length (x ∷ xs) = omega arith in same)

module _ (db : Database) (w : World) (tell : Tell db w) where
  -- the last number of a table of these rows is the length of the list
  last_is : {X : Type 0} (t : TableName) (columns : ℕ × X → Row) (xs : List X) → ((n : ℕ) (x : X) → column (columns (n, x)) 0 ≡ whole n) → rows_where db.trees t (λ row. true) ≡ filter (λ row. true) (map columns (enumerate_from 1 xs))
      → (n : ℕ) → whole n ≡ last_number_in (rows_where db.trees t (λ row. true)) → n ≡ length xs
  last_is t columns xs numbered rows n read = ap number_of (read ∙ ap last_number_in (rows ∙ all_kept (map columns (enumerate_from 1 xs))) ∙ last_counted columns numbered xs)

  pub accounts_counted : (n : ℕ) → whole n ≡ last_number_in (rows_where db.trees Account (λ row. true)) → n ≡ length w.accounts
  accounts_counted =
      last_is Account (λ (e : ℕ × Book). columns_of (stored.Account (account_row e.0 e.1))) w.accounts (λ n x. refl)
      (rows_of_list Account account_key (keyed_by_number Account refl) db (contents_of w tell.calls tell.batches) tell.holds (λ n a. stored.Account (account_row n a)) w.accounts (λ n. refl) (λ row. true))

  pub apps_counted : (n : ℕ) → whole n ≡ last_number_in (rows_where db.trees App (λ row. true)) → n ≡ length w.apps
  apps_counted =
      last_is App (λ (e : ℕ × Application). columns_of (stored.App (app_row e.0 e.1))) w.apps (λ n x. refl)
      (rows_of_list App app_key (keyed_by_number App refl) db (contents_of w tell.calls tell.batches) tell.holds (λ n a. stored.App (app_row n a)) w.apps (λ n. refl) (λ row. true))

  pub versions_counted : (n : ℕ) → whole n ≡ last_number_in (rows_where db.trees Version (λ row. true)) → n ≡ length w.versions
  versions_counted =
      last_is Version (λ (e : ℕ × Made). columns_of (stored.Version (version_row w e.0 e.1))) w.versions (λ n x. refl)
      (rows_of_list Version version_key (keyed_by_number Version refl) db (contents_of w tell.calls tell.batches) tell.holds (λ n v. stored.Version (version_row w n v)) w.versions (λ n. refl) (λ row. true))

  pub units_counted : (n : ℕ) → whole n ≡ last_number_in (rows_where db.trees Unit (λ row. true)) → n ≡ length w.units
  units_counted =
      last_is Unit (λ (e : ℕ × UnitBook). columns_of (stored.Unit (unit_row w e.0 e.1))) w.units (λ n x. refl)
      (rows_of_list Unit unit_key (keyed_by_number Unit refl) db (contents_of w tell.calls tell.batches) tell.holds (λ n b. stored.Unit (unit_row w n b)) w.units (λ n. refl) (λ row. true))

  pub hosts_counted : (n : ℕ) → whole n ≡ last_number_in (rows_where db.trees Host (λ row. true)) → n ≡ length w.hosts
  hosts_counted =
      last_is Host (λ (e : ℕ × HostRow). columns_of (stored.Host (host_row (length (held_by w e.0)) (host_credit w e.0) e.0 e.1))) w.hosts (λ n x. refl)
      (rows_of_list Host host_key (keyed_by_number Host refl) db (contents_of w tell.calls tell.batches) tell.holds (λ n h. stored.Host (host_row (length (held_by w n)) (host_credit w n) n h)) w.hosts (λ n. refl) (λ row. true))
