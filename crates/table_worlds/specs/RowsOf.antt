-- Rule. The rows of a world, table by table.
use Rattle.std.specs.Prelude.{◌≡◌, ℕ, ◌-◌, List, [], ◌∷◌, map, filter_map, length, codes, option_map}
use Rattle.sqlite_rules.specs.Lists.{Has}
use Rattle.sqlite_trees.specs.Tree.{Trees}
use Rattle.sched_book.specs.Numbered.{map_from}
use Rattle.sched_book.specs.Places.{places}
use Rattle.sched_book.specs.declared.instance.UnitBook.{UnitBook}
use Rattle.sched_book.specs.declared.settings.Settings.{Settings}
use Rattle.sched_book.specs.declared.world.World.{World}
use Rattle.table_meaning.specs.declared.rows.StoredRow.{StoredRow}
use Rattle.table_meaning.specs.declared.rows.StoredRow.TheVariants as stored
use Rattle.table_meaning.specs.declared.tables.TableName.TheVariants as name
use Rattle.table_meaning.specs.Rows.{columns_of, rows_in}
use Rattle.table_meaning.specs.Worlds.{setting_in, unit_row, mark_row, instance_row}
use Rattle.table_worlds.specs.declared.matching.TableRows.{TableRows}
use Rattle.table_worlds.specs.declared.unit_rows.UnitRows.{UnitRows}
use Rattle.table_worlds.specs.declared.keys.NumberedTable.{NumberedTable}
use Rattle.table_worlds.specs.declared.keys.NumberedTable.TheVariants as table
use Rattle.table_worlds.specs.declared.keys.WorldKey.TheVariants.{Instance}
use Rattle.table_worlds.specs.Keys.{row_in, other_row, numbered}

-- the names of the settings
abbrev pub setting_names : List (List ℕ)
setting_names =
    codes "schema"
    ∷ codes "daily_result_quota"
    ∷ codes "max_hosts"
    ∷ codes "max_wus_in_progress"
    ∷ codes "max_wus_to_send"
    ∷ codes "operator_key"
    ∷ codes "request_delay"
    ∷ codes "resend_lost_results"
    ∷ []

abbrev pub setting_rows : Settings → List StoredRow
setting_rows s = filter_map (λ name. option_map (λ v. stored.Setting (record { name = name; value = v })) (setting_in s name)) setting_names

-- the two lists have the same members
abbrev pub HaveSame : List StoredRow → List StoredRow → Type 0
HaveSame xs ys = ((r : StoredRow) → Has xs r → Has ys r) × ((r : StoredRow) → Has ys r → Has xs r)

-- the rows of all tables that hold a world
pub record WorldRows : Type 0 where
  pub settings : List StoredRow
  pub accounts : List StoredRow
  pub apps : List StoredRow
  pub versions : List StoredRow
  pub classes : List StoredRow
  pub units : List StoredRow
  pub marks : List StoredRow
  pub hosts : List StoredRow
  pub instances : List StoredRow

-- These are the rows of a world. Those of settings and instances are in any order.
pub record AreRowsOf (w : World) (rows : WorldRows) : Type 0 where
  pub settings : HaveSame rows.settings (setting_rows w.settings)
  pub accounts : rows.accounts ≡ filter_map (row_in w) (numbered table.Account (length w.accounts))
  pub apps : rows.apps ≡ filter_map (row_in w) (numbered table.App (length w.apps))
  pub versions : rows.versions ≡ filter_map (row_in w) (numbered table.Version (length w.versions))
  pub classes : rows.classes ≡ filter_map (row_in w) (numbered table.Class (length w.versions))
  pub units : rows.units ≡ filter_map (row_in w) (numbered table.Unit (length w.units))
  pub marks : rows.marks ≡ filter_map (row_in w) (numbered table.Mark (length w.units))
  pub hosts : rows.hosts ≡ filter_map (row_in w) (numbered table.Host (length w.hosts))
  pub instances : HaveSame rows.instances (filter_map (row_in w) (map Instance (places w)))

-- the rows of each table of a world, as they were read
pub record AreRead (trees : Trees) (rows : WorldRows) : Type 0 where
  pub settings : map columns_of rows.settings ≡ rows_in trees name.Setting
  pub accounts : map columns_of rows.accounts ≡ rows_in trees name.Account
  pub apps : map columns_of rows.apps ≡ rows_in trees name.App
  pub versions : map columns_of rows.versions ≡ rows_in trees name.Version
  pub classes : map columns_of rows.classes ≡ rows_in trees name.VersionClass
  pub units : map columns_of rows.units ≡ rows_in trees name.Unit
  pub marks : map columns_of rows.marks ≡ rows_in trees name.UnitMark
  pub hosts : map columns_of rows.hosts ≡ rows_in trees name.Host
  pub instances : map columns_of rows.instances ≡ rows_in trees name.Instance

-- ---- the tables of workunits, their marks and instances, and the other tables

-- a world with these workunits in place of its own
abbrev pub having : World → List UnitBook → World
having w books = record w { units = books }

abbrev pub without_units : World → World
without_units w = having w []

-- the rows of all tables except those
abbrev pub other_rows : WorldRows → TableRows
other_rows rows = record { settings = rows.settings; accounts = rows.accounts; apps = rows.apps; versions = rows.versions; classes = rows.classes; hosts = rows.hosts }

-- These are the rows of a world, except those of workunits, their marks and instances. Those of settings are in any order.
pub record AreOtherRows (w : World) (rows : TableRows) : Type 0 where
  pub settings : HaveSame rows.settings (setting_rows w.settings)
  pub accounts : rows.accounts ≡ filter_map (other_row w) (numbered table.Account (length w.accounts))
  pub apps : rows.apps ≡ filter_map (other_row w) (numbered table.App (length w.apps))
  pub versions : rows.versions ≡ filter_map (other_row w) (numbered table.Version (length w.versions))
  pub classes : rows.classes ≡ filter_map (other_row w) (numbered table.Class (length w.versions))
  pub hosts : rows.hosts ≡ filter_map (other_row w) (numbered table.Host (length w.hosts))

-- the rows of a table that were read, and how many a world has; none for workunits and their marks
abbrev pub rows_of_table : TableRows → NumberedTable → List StoredRow
rows_of_table rows table.Account = rows.accounts
rows_of_table rows table.App = rows.apps
rows_of_table rows table.Version = rows.versions
rows_of_table rows table.Class = rows.classes
rows_of_table rows table.Unit = []
rows_of_table rows table.Mark = []
rows_of_table rows table.Host = rows.hosts

abbrev pub count_beside : World → NumberedTable → ℕ
count_beside w table.Account = length w.accounts
count_beside w table.App = length w.apps
count_beside w table.Version = length w.versions
count_beside w table.Class = length w.versions
count_beside w table.Unit = 0
count_beside w table.Mark = 0
count_beside w table.Host = length w.hosts

-- these are the rows of a table of a world
abbrev pub IsOtherTable : World → TableRows → NumberedTable → Type 0
IsOtherTable w rows t = rows_of_table rows t ≡ filter_map (other_row w) (numbered t (count_beside w t))

-- the rows of a workunit of a number: its row, its mark, and its instances in order, for the applications of this world
abbrev pub rows_of_unit : World → ℕ → UnitBook → UnitRows
rows_of_unit w id b = record { unit = unit_row w id b; mark = mark_row id b; instances = map_from 1 (λ n x. instance_row w b id (n - 1) x) b.instances }
