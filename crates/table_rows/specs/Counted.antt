-- Words. The tables whose rows count from 1, among all tables, and the statements that read their greatest numbers.
use Rattle.std.specs.Prelude.{ℕ, List, codes}
use Rattle.table_meaning.specs.declared.tables.TableName.{TableName}
use Rattle.table_meaning.specs.declared.tables.TableName.TheVariants as table
use Rattle.table_rows.specs.declared.names.CountedTable.{CountedTable}
use Rattle.table_rows.specs.declared.names.CountedTable.TheVariants.{Account, App, Version, Unit, Host}

-- the table of this name
abbrev pub counted_table : CountedTable → TableName
counted_table Account = table.Account
counted_table App = table.App
counted_table Version = table.Version
counted_table Unit = table.Unit
counted_table Host = table.Host

-- reads the number of the table's last row
abbrev pub last_text : CountedTable → List ℕ
last_text Account = codes "SELECT id FROM account WHERE id > 0 ORDER BY id DESC LIMIT 1"
last_text App = codes "SELECT id FROM app WHERE id > 0 ORDER BY id DESC LIMIT 1"
last_text Version = codes "SELECT id FROM version WHERE id > 0 ORDER BY id DESC LIMIT 1"
last_text Unit = codes "SELECT id FROM unit WHERE id > 0 ORDER BY id DESC LIMIT 1"
last_text Host = codes "SELECT id FROM host WHERE id > 0 ORDER BY id DESC LIMIT 1"
