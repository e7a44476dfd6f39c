-- Rule. The keys of the rows that represent a world, and the row at each. (The settings never change, and are not among them.)
use Rattle.std.specs.Prelude.{ℕ, List, map, Option, None}
use Rattle.std.specs.List.{range_with_len}
use Rattle.sched_book.specs.declared.world.World.{World}
use Rattle.table_meaning.specs.declared.rows.StoredRow.{StoredRow}
use Rattle.table_meaning.specs.Rows.{RowKey, account_key, app_key, version_key, class_key, unit_key, mark_key, host_key, instance_key}
use Rattle.table_meaning.specs.Worlds.{contents_of}
use Rattle.table_worlds.specs.declared.keys.NumberedTable.{NumberedTable}
use Rattle.table_worlds.specs.declared.keys.NumberedTable.TheVariants as table
use Rattle.table_worlds.specs.declared.keys.WorldKey.{WorldKey}
use Rattle.table_worlds.specs.declared.keys.WorldKey.TheVariants.{Account, App, Version, Class, Unit, Mark, Host, Instance}

abbrev pub row_key : WorldKey → RowKey
row_key (Account id) = account_key id
row_key (App id) = app_key id
row_key (Version id) = version_key id
row_key (Class id) = class_key id
row_key (Unit id) = unit_key id
row_key (Mark id) = mark_key id
row_key (Host id) = host_key id
row_key (Instance p) = instance_key p.unit p.number

-- the row that a world has at a key
abbrev pub row_in : World → WorldKey → Option StoredRow
row_in w key = contents_of w (λ _ _. None) (λ _ _. None) (row_key key)

-- the row at a key of any table except those of workunits, their marks and instances
abbrev pub other_row : World → WorldKey → Option StoredRow
other_row w (Account id) = row_in w (Account id)
other_row w (App id) = row_in w (App id)
other_row w (Version id) = row_in w (Version id)
other_row w (Class id) = row_in w (Class id)
other_row w (Unit id) = None
other_row w (Mark id) = None
other_row w (Host id) = row_in w (Host id)
other_row w (Instance p) = None

-- the key of the row of a number
abbrev pub keyed : NumberedTable → ℕ → WorldKey
keyed table.Account id = Account id
keyed table.App id = App id
keyed table.Version id = Version id
keyed table.Class id = Class id
keyed table.Unit id = Unit id
keyed table.Mark id = Mark id
keyed table.Host id = Host id

-- the keys of the first `count` rows of a table
abbrev pub numbered : NumberedTable → ℕ → List WorldKey
numbered t count = map (keyed t) (range_with_len 1 count)
