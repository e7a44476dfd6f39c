-- Rule. The world in tables, as a function of their rows: each part of it is found at its keys.
use Rattle.std.specs.Prelude.{◌≡◌, ℕ, ◌+◌, max, ◌==◌, List, [], ◌∷◌, filter_map, codes, Option, option_map, option_and_then, unwrap_or}
use Rattle.std.specs.List.{range_with_len}
use Rattle.sched_book.specs.declared.instance.Instance.{Instance as Job}
use Rattle.sched_book.specs.declared.instance.UnitBook.{UnitBook}
use Rattle.sched_book.specs.declared.rows.Account.{Account}
use Rattle.sched_book.specs.declared.rows.App.{App}
use Rattle.sched_book.specs.declared.rows.HostRow.{HostRow}
use Rattle.sched_book.specs.declared.rows.Version.{Version}
use Rattle.sched_book.specs.declared.settings.Settings.{Settings}
use Rattle.sched_book.specs.declared.world.World.{World}
use Rattle.sqlite.specs.Effect.{Database}
use Rattle.sqlite_trees.specs.Tree.{Trees}
use Rattle.sqlite_value.specs.Order.{Row}
use Rattle.table_meaning.specs.declared.tables.TableName.{TableName}
use Rattle.table_meaning.specs.declared.tables.TableName.TheVariants as table
use Rattle.table_meaning.specs.Rows.{setting_key, account_key, app_key, version_key, class_key, unit_key, mark_key, host_key, instance_key, rows_in, look_up}
use Rattle.table_meaning.specs.Worlds.{BatchText, SlotCalls, HoldWorld}
use Rattle.table_worlds.specs.ReadBack.{number_at, text_at, account_in, app_in, version_in, unit_in, host_in, job_in}
use Rattle.table_worlds.specs.Readable.{IsReadable}

-- ---- settings, each by its name

-- the columns of the setting of a name
abbrev pub setting_row_in : Trees → List ℕ → Row
setting_row_in trees name = unwrap_or (look_up trees (setting_key name)) []

abbrev pub settings_in : Trees → Settings
settings_in trees = record {
  daily_result_quota = number_at (setting_row_in trees (codes "daily_result_quota")) 1;
  max_hosts = number_at (setting_row_in trees (codes "max_hosts")) 1;
  max_wus_in_progress = number_at (setting_row_in trees (codes "max_wus_in_progress")) 1;
  max_wus_to_send = number_at (setting_row_in trees (codes "max_wus_to_send")) 1;
  operator_key = text_at (setting_row_in trees (codes "operator_key")) 1;
  request_delay = number_at (setting_row_in trees (codes "request_delay")) 1;
  resend_lost_results = number_at (setting_row_in trees (codes "resend_lost_results")) 1 == 1;
}

-- ---- the other tables, each by number

-- the greatest number in a column of rows
abbrev pub greatest : ℕ → List Row → ℕ
greatest at [] = 0
greatest at (row ∷ rows) = max (number_at row at) (greatest at rows)

-- the numbers from one up to the greatest in a table
abbrev pub numbers_in : Trees → TableName → List ℕ
numbers_in trees t = range_with_len 1 (greatest 0 (rows_in trees t))

abbrev pub accounts_in : Trees → List Account
accounts_in trees = filter_map (λ id. option_map account_in (look_up trees (account_key id))) (numbers_in trees table.Account)

abbrev pub apps_in : Trees → List App
apps_in trees = filter_map (λ id. option_map app_in (look_up trees (app_key id))) (numbers_in trees table.App)

-- the version of a number, if it has a class
abbrev pub version_of : Trees → ℕ → Row → Option Version
version_of trees id row = option_map (version_in (apps_in trees) row) (look_up trees (class_key id))

abbrev pub versions_in : Trees → List Version
versions_in trees = filter_map (λ id. option_and_then (version_of trees id) (look_up trees (version_key id))) (numbers_in trees table.Version)

abbrev pub hosts_in : Trees → List HostRow
hosts_in trees = filter_map (λ id. option_map host_in (look_up trees (host_key id))) (numbers_in trees table.Host)

-- the instances of a workunit; their numbers begin with 0
abbrev pub jobs_in : Trees → ℕ → List Job
jobs_in trees unit = filter_map (λ num. option_map job_in (look_up trees (instance_key unit num))) (range_with_len 0 (greatest 1 (rows_in trees table.Instance) + 1))

-- the workunit of a number, with this row and this mark
abbrev pub book_in : Trees → ℕ → Row → Row → UnitBook
book_in trees id row mark = record { unit = unit_in (apps_in trees) row mark; instances = jobs_in trees id }

-- the same, if it has a mark
abbrev pub book_of : Trees → ℕ → Row → Option UnitBook
book_of trees id row = option_map (book_in trees id row) (look_up trees (mark_key id))

abbrev pub units_in : Trees → List UnitBook
units_in trees = filter_map (λ id. option_and_then (book_of trees id) (look_up trees (unit_key id))) (numbers_in trees table.Unit)

-- ---- the world

unfoldable pub world_in : Trees → World
world_in trees = record {
  settings = settings_in trees;
  accounts = accounts_in trees;
  apps = apps_in trees;
  versions = versions_in trees;
  units = units_in trees;
  hosts = hosts_in trees;
}

-- if tables hold a world that its rows determine, it is the world in them, for any calls and imports that they keep
abbrev pub HeldIsReadBack : Type 0
HeldIsReadBack =
    (db : Database) (w : World) (calls : SlotCalls) (batches : List ℕ → List ℕ → Option BatchText)
    → HoldWorld db w calls batches → IsReadable w → world_in db.trees ≡ w
