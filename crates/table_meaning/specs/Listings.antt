-- Words. The rows of a table that pass a test of their columns, and the statements that list them.
use Rattle.std.specs.Prelude.{ℕ, pos, Bool, ◌&&◌, int_lt, true, List, [], ◌∷◌, map, filter, filter_map, codes, None, unwrap_or}
use Rattle.std.specs.List.{range_with_len, last_or}
use Rattle.sqlite_value.specs.declared.value.Value.{Value}
use Rattle.sqlite_value.specs.declared.value.Value.TheVariants.{Int, Text}
use Rattle.sqlite_value.specs.declared.keys.Collation.TheVariants.{Binary}
use Rattle.sqlite_value.specs.Order.{Row, column}
use Rattle.sqlite_trees.specs.Tree.{Trees, rowid}
use Rattle.sqlite_sql.specs.declared.ops.BinaryOp.TheVariants.{Compare}
use Rattle.sqlite_sql.specs.declared.ops.CompareOp.TheVariants.{Eq, Gt}
use Rattle.sqlite_sql.specs.Term.{Term, lit, col, op2}
use Rattle.sqlite_sql.specs.Query.{Query}
use Rattle.sqlite_schema.specs.Rules.{equal}
use Rattle.sqlite_rules.specs.Edit.{id_in}
use Rattle.table_meaning.specs.declared.tables.TableName.{TableName}
use Rattle.table_meaning.specs.declared.rows.StoredRow.{StoredRow}
use Rattle.table_meaning.specs.Rows.{tree_of, shown, whole, RowKey}
use Rattle.table_meaning.specs.Reads.{read_query}
use Rattle.table_meaning.specs.Holding.{Contents}

-- The row's number is above 0, as it is of each row that a key names.
abbrev pub is_numbered : Row → Bool
is_numbered row = int_lt (pos 0) (id_in (rowid row))

-- the shown columns of the rows with a number above 0 that pass a test of these columns, in the order of the tree
abbrev pub rows_where : Trees → TableName → (Row → Bool) → List Row
rows_where trees t test = map (shown t) (filter (λ row. is_numbered row && test (shown t row)) (trees (tree_of t)))

-- the rows that exist at the keys of `count` numbers, from one number on
abbrev pub existing_rows : Contents → (ℕ → RowKey) → ℕ → ℕ → List StoredRow
existing_rows contents key from count = filter_map (λ n. contents (key n)) (range_with_len from count)

-- the rows of a tree with a number above 0 that pass the terms; shown at these places, in the order of their numbers
abbrev pub listing_query : ℕ → List Term → List ℕ → Query
listing_query tree terms places = record (read_query tree places) { filter = op2 (Compare Gt Binary) (col 1 0) (lit (Int (pos 0))) ∷ terms }

-- the column at this place is the first parameter
abbrev pub is_first : ℕ → Term
is_first place = op2 (Compare Eq Binary) (col 1 place) (col 0 0)

-- ---- the credits of a user's hosts

abbrev pub credits_text : List ℕ
credits_text = codes "SELECT credit FROM host WHERE id > 0 AND account_id = ?1 ORDER BY id"

-- the host is of this account
abbrev pub is_of_user : ℕ → Row → Bool
is_of_user account row = equal Binary (column row 1) (whole account)

abbrev pub credit_in : Row → Value
credit_in row = column row 9

-- ---- rows by their names

-- the account with this authenticator, and the workunit of this name
abbrev pub account_text : List ℕ
account_text = codes "SELECT id, auth, name FROM account WHERE id > 0 AND auth = ?1 ORDER BY id"

abbrev pub unit_named_text : List ℕ
unit_named_text = codes "SELECT id FROM unit WHERE id > 0 AND name = ?1 ORDER BY id"

-- the column at this place is this text
abbrev pub has_text : ℕ → List ℕ → Row → Bool
has_text at text row = equal Binary (column row at) (Text text)

-- the host of this account and name, and all hosts of the account
abbrev pub host_known_text : List ℕ
host_known_text = codes "SELECT id FROM host WHERE id > 0 AND account_id = ?1 AND cpid = ?2 ORDER BY id"

abbrev pub hosts_text : List ℕ
hosts_text = codes "SELECT id FROM host WHERE id > 0 AND account_id = ?1 ORDER BY id"

-- the host is of this account and has this name
abbrev pub is_host_known : ℕ → List ℕ → Row → Bool
is_host_known account cpid row = is_of_user account row && has_text 2 cpid row

-- the numbers of the versions of an application for a platform
abbrev pub versions_text : List ℕ
versions_text = codes "SELECT num FROM version WHERE id > 0 AND app_id = ?1 AND platform = ?2 ORDER BY id"

-- the version is of this application and for this platform
abbrev pub is_version_for : ℕ → List ℕ → Row → Bool
is_version_for app platform row = equal Binary (column row 1) (whole app) && has_text 2 platform row

-- finds the row of a version by application, platform and number
abbrev pub version_text : List ℕ
version_text = codes "SELECT id FROM version WHERE id > 0 AND app_id = ?1 AND platform = ?2 AND num = ?3 ORDER BY id"

-- the version is of this application, for this platform, and has this number
abbrev pub is_version_known : ℕ → List ℕ → ℕ → Row → Bool
is_version_known app platform num row = equal Binary (column row 1) (whole app) && (has_text 2 platform row && equal Binary (column row 3) (whole num))

-- ---- the last row

-- the column at place 0 of the last row of a tree that has a number above 0
abbrev pub last_query : ℕ → Query
last_query tree = record (listing_query tree [] (0 ∷ [])) { order = (col 1 0, record { collation = Binary; descending = true }) ∷ []; limit = lit (Int (pos 1)) }

-- the number of the last of these rows, or 0 if there are none
abbrev pub last_number_in : List Row → Value
last_number_in rows = unwrap_or (last_or None (map (λ row. column row 0) rows)) (whole 0)
