-- Words. What the steps of a transaction do to the tables.
use Rattle.std.specs.Prelude.{◌≡◌, List, [], None, IsTrue}
use Rattle.sqlite.specs.Effect.{Database, IsDatabase}
use Rattle.sqlite.specs.State.{State}
use Rattle.table_meaning.specs.declared.tables.TableName.{TableName}
use Rattle.table_meaning.specs.declared.rows.StoredRow.{StoredRow}
use Rattle.table_meaning.specs.Schema.{stored_schema}
use Rattle.table_meaning.specs.Rows.{tree_of}
use Rattle.table_meaning.specs.Holding.{Contents, Hold, with_stored_rows}

-- If the old tables hold some contents, the new ones hold them with these rows put, one after another.
abbrev pub PutsRows : Database → Database → List StoredRow → Type 0
PutsRows old new rows = (contents : Contents) → Hold old contents → Hold new (with_stored_rows contents rows)

-- the same within a transaction
pub record Moves (old new : State) (rows : List StoredRow) : Type 0 where
  pub inside : IsTrue new.in_transaction
  pub puts : PutsRows old.now new.now rows

-- the tables, each with no row
pub record AreNew (db : Database) : Type 0 where
  pub schema : db.schema ≡ stored_schema
  pub sound : IsDatabase db
  pub empty : (t : TableName) → db.trees (tree_of t) ≡ []

-- The tables hold these rows, put in order, and nothing else.
abbrev pub HoldJust : Database → List StoredRow → Type 0
HoldJust db rows = Hold db (with_stored_rows (λ key. None) rows)
