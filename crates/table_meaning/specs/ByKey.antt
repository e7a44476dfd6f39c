-- Words. The statements that read the row at a key, or the rows whose keys begin with the same number.
use Rattle.std.specs.Prelude.{ℕ, ◌+◌, List, [], ◌∷◌, filter, codes}
use Rattle.sqlite_value.specs.declared.value.Value.{Value}
use Rattle.sqlite_value.specs.declared.keys.Collation.TheVariants.{Binary}
use Rattle.sqlite_value.specs.Order.{Row, column}
use Rattle.sqlite_trees.specs.Tree.{Trees}
use Rattle.sqlite_sql.specs.declared.ops.BinaryOp.TheVariants.{Compare}
use Rattle.sqlite_sql.specs.declared.ops.CompareOp.TheVariants.{Eq}
use Rattle.sqlite_sql.specs.Term.{Term, col, op2}
use Rattle.sqlite_sql.specs.Query.{Query}
use Rattle.sqlite_schema.specs.Rules.{equal}
use Rattle.table_meaning.specs.declared.tables.TableName.TheVariants.{Kept}
use Rattle.table_meaning.specs.Rows.{whole, rows_in}
use Rattle.table_meaning.specs.Reads.{read_query}

-- reads the status of a workunit
abbrev pub status_text : List ℕ
status_text = codes "SELECT status FROM unit WHERE id = ?1 ORDER BY id"

-- the column with the status in a workunit's row
abbrev pub status_in : Row → Value
status_in row = column row 13

-- reads the kept calls of a host
abbrev pub kept_calls_text : List ℕ
kept_calls_text = codes "SELECT host_id, slot, seqno, text, reply FROM kept4 WHERE host_id = ?1 ORDER BY rowid"

-- the rows of the kept calls of a host
abbrev pub kept_rows : Trees → ℕ → List Row
kept_rows trees host = filter (λ row. equal Binary (column row 0) (whole host)) (rows_in trees Kept)

-- terms: the columns at these places are the parameters, from this slot on
abbrev pub key_tests : ℕ → List ℕ → List Term
key_tests slot [] = []
key_tests slot (place ∷ places) = op2 (Compare Eq Binary) (col 1 place) (col 0 slot) ∷ key_tests (slot + 1) places

-- the rows of a tree whose key, at the places `key`, is the parameters; shown at `places`, in the order of their numbers
abbrev pub key_query : ℕ → List ℕ → List ℕ → Query
key_query tree key places = record (read_query tree places) { filter = key_tests 0 key }
