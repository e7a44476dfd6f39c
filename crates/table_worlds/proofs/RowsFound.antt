-- A row that was read from a table is the row at its key.
use Rattle.std.proofs.Common.{◌≡◌, List, map, Some, sym, ap, subst, ◌∙◌}
use Rattle.sqlite.specs.Effect.{Database}
use Rattle.sqlite_rules.specs.Lists.{Has}
use Rattle.sqlite_rules.proofs.ProbeLemmas.{mapped_has, has_mapped}
use Rattle.table_meaning.specs.declared.rows.StoredRow.{StoredRow}
use Rattle.table_meaning.specs.Holding.{AreKnown}
use Rattle.table_meaning.specs.Rows.{tree_of, shown, rows_in, columns_of, table_at, row_key_of, look_up}
use Rattle.table_meaning.proofs.RowsHeld.{has_own_key}
use Rattle.table_meaning.proofs.RowsKeyed.{stands_at_key}

pub found_at_key : (db : Database) → AreKnown db → (r : StoredRow) (rows : List StoredRow) → map columns_of rows ≡ rows_in db.trees (table_at (row_key_of r)) → Has rows r → look_up db.trees (row_key_of r) ≡ Some (columns_of r)
found_at_key db known r rows read has =
    let t = table_at (row_key_of r) in
    let raw = has_mapped (shown t) (db.trees (tree_of t)) (columns_of r) (subst (λ l. Has l (columns_of r)) read (mapped_has columns_of rows r has)) in
    stands_at_key db known (row_key_of r) raw.0 raw.1 (has_own_key r raw.0 (sym raw.2)) ∙ ap Some (sym raw.2)
